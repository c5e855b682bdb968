-- Sample texts: small EDIF and Verilog files.
use Rattle.std.specs.Prelude.{ℕ, ◌==◌, List, [], ◌++◌, Option, Some, None, codes, if◌then◌else◌}

-- a file of one cell, by keywords in small letters, in capitals and in both
abbrev pub small : List ℕ
small =
    codes "(edif a(edifversion 2 0 0)(EDIFLEVEL 0)(keywordMap(keywordLevel 0))(library w(edifLevel 0)(technology(numberDefinition))(cell c(cellType GENERIC)(view v(viewType NETLIST)(interface))))(design a(cellRef c(libraryRef w))))"

-- a file as a synthesis program writes it
abbrev pub blinker : List ℕ
blinker =
    codes "(edif blinker\n"
    ++ codes "  (edifversion 2 0 0)\n"
    ++ codes "  (edifLevel 0)\n"
    ++ codes "  (keywordmap (keywordlevel 0))\n"
    ++ codes "(status\n"
    ++ codes " (written\n"
    ++ codes "  (timeStamp 2024 03 01 09 05 00)\n"
    ++ codes "  (program \"Synth\" (version \"1.2\"))\n"
    ++ codes "  (comment \"Built on a Linux machine\")\n"
    ++ codes " )\n"
    ++ codes ")\n"
    ++ codes "  (Library prims\n"
    ++ codes "    (edifLevel 0)\n"
    ++ codes "    (technology (numberDefinition ))\n"
    ++ codes "   (cell LUT1 (celltype GENERIC)\n"
    ++ codes "     (view netlist (viewtype NETLIST)\n"
    ++ codes "       (interface\n"
    ++ codes "        (port O (direction OUTPUT))\n"
    ++ codes "        (port I0 (direction INPUT)))))\n"
    ++ codes "   (cell FDRE (celltype GENERIC)\n"
    ++ codes "     (view netlist (viewtype NETLIST)\n"
    ++ codes "       (interface\n"
    ++ codes "        (port Q (direction OUTPUT))\n"
    ++ codes "        (port C (direction INPUT))\n"
    ++ codes "        (port D (direction INPUT))))))\n"
    ++ codes "  (Library work\n"
    ++ codes "    (edifLevel 0)\n"
    ++ codes "    (technology (numberDefinition ))\n"
    ++ codes "   (cell blinker (celltype GENERIC)\n"
    ++ codes "     (view blinker (viewtype NETLIST)\n"
    ++ codes "       (interface\n"
    ++ codes "        (port clk (direction INPUT))\n"
    ++ codes "        (port (array (rename q \"q[3:0]\") 4) (direction OUTPUT)))\n"
    ++ codes "       (contents\n"
    ++ codes "        (instance (rename q_reg_0_ \"q_reg[0]\") (viewref netlist (cellref FDRE (libraryref prims)))\n"
    ++ codes "          (property INIT (string \"1'b0\")))\n"
    ++ codes "        (instance lut (viewref netlist (cellref LUT1 (libraryref prims)))\n"
    ++ codes "          (property INIT (string \"2'h1\"))\n"
    ++ codes "          (property DONT_TOUCH (boolean (true)) (owner \"user\")))\n"
    ++ codes "        (net clk (joined (portref clk) (portref C (instanceref q_reg_0_))))\n"
    ++ codes "        (net (rename q_0_ \"q[0]\") (joined\n"
    ++ codes "          (portref (member q 3)) (portref Q (instanceref q_reg_0_)) (portref I0 (instanceref lut))))\n"
    ++ codes "        (net d (joined (portref O (instanceref lut)) (portref D (instanceref q_reg_0_))))))))\n"
    ++ codes "(comment \"Reference To The Cell Of Highest Level\")\n"
    ++ codes "  (design blinker (cellref blinker (libraryref work))\n"
    ++ codes "    (property part (string \"xc7\"))))\n"

-- a file of a keyword level that is not read
abbrev pub level : List ℕ
level =
    codes "(edif a(edifVersion 2 0 0)(edifLevel 0)(keywordMap(keywordLevel 2)(keywordDefine x)))"

-- connections to repeated, constant and unknown bits
abbrev pub repeated : List ℕ
repeated =
    codes "module AND4 (input [3:0] A, output Y); endmodule\n"
    ++ codes "module top (input [1:0] b, input c, output y, output z);\n"
    ++ codes "  supply0 g;\n"
    ++ codes "  AND4 u (.A({2{b[1:0]}}), .Y(y));\n"
    ++ codes "  AND4 v (.A({{c, g}, 2 'b 1x}), .Y(z));\n"
    ++ codes "endmodule\n"

-- assignments between nets with attributes
abbrev pub attributes : List ℕ
attributes =
    codes "module m (input a, output y); (* src = \"f:1\" *) wire p; (* src = \"f:2\" *) wire q; assign p = a; assign q = p; assign y = q; endmodule"

-- nets with the names of a bit and of a keyword
abbrev pub escaped : List ℕ
escaped =
    codes "module m (input [1:0] a, output y);\n"
    ++ codes "  wire \\a[0] , \\wire , cpu;\n"
    ++ codes "  assign \\a[0]  = a[0];\n"
    ++ codes "  assign \\wire  = \\cpu ;\n"
    ++ codes "  assign cpu = a[1], y = \\wire ;\n"
    ++ codes "endmodule\n"

-- the texts of the examples by their numbers: 1, 3 and 5 are EDIF texts, 2 is the empty text, and 13, 14 and 15 are Verilog texts
abbrev pub sample_at : ℕ → Option (List ℕ)
sample_at number =
    if number == 1 then Some small
    else if number == 2 then Some []
    else if number == 3 then Some blinker
    else if number == 5 then Some level
    else if number == 13 then Some repeated
    else if number == 14 then Some attributes
    else if number == 15 then Some escaped
    else None
