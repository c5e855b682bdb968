use Rattle.std.proofs.Common.{refl, arith, ap, sym, ◌∙◌}
use Rattle.std.specs.Char.{is_ascii_digit}
use Rattle.nl_bytes.specs.declared.class.Class.{Class}
use Rattle.nl_bytes.specs.declared.class.TheConstants.{EDIF_CLASSES, VERILOG_CLASSES}
use Rattle.nl_bytes.specs.Classes.{in_class, is_space, is_word_byte, is_string_byte, is_verilog_space, is_name_byte, is_number_byte, is_based_byte, is_graphic, is_verilog_string_byte, is_line_byte, is_comment_byte}
use Rattle.nl_bytes.proofs.Tables.{agree_below, from_table}
use Rattle.nl_bytes.proofs.class.Class.contains.Goals as goal

pub returns-in-Space : goal.returns-in-Space
unfolding agree_below
returns-in-Space c = from_table EDIF_CLASSES 1 is_space c.args.byte (omega arith) refl ∙ ap (λ (k : Class). in_class k c.args.byte) (sym c.in-Space.is)

pub returns-in-Digit : goal.returns-in-Digit
unfolding agree_below
returns-in-Digit c = from_table EDIF_CLASSES 2 is_ascii_digit c.args.byte (omega arith) refl ∙ ap (λ (k : Class). in_class k c.args.byte) (sym c.in-Digit.is)

pub returns-in-WordByte : goal.returns-in-WordByte
unfolding agree_below
returns-in-WordByte c = from_table EDIF_CLASSES 4 is_word_byte c.args.byte (omega arith) refl ∙ ap (λ (k : Class). in_class k c.args.byte) (sym c.in-WordByte.is)

pub returns-in-StringByte : goal.returns-in-StringByte
unfolding agree_below
returns-in-StringByte c = from_table EDIF_CLASSES 8 is_string_byte c.args.byte (omega arith) refl ∙ ap (λ (k : Class). in_class k c.args.byte) (sym c.in-StringByte.is)

pub returns-in-VerilogSpace : goal.returns-in-VerilogSpace
unfolding agree_below
returns-in-VerilogSpace c = from_table VERILOG_CLASSES 1 is_verilog_space c.args.byte (omega arith) refl ∙ ap (λ (k : Class). in_class k c.args.byte) (sym c.in-VerilogSpace.is)

pub returns-in-NameByte : goal.returns-in-NameByte
unfolding agree_below
returns-in-NameByte c = from_table VERILOG_CLASSES 2 is_name_byte c.args.byte (omega arith) refl ∙ ap (λ (k : Class). in_class k c.args.byte) (sym c.in-NameByte.is)

pub returns-in-NumberByte : goal.returns-in-NumberByte
unfolding agree_below
returns-in-NumberByte c = from_table VERILOG_CLASSES 4 is_number_byte c.args.byte (omega arith) refl ∙ ap (λ (k : Class). in_class k c.args.byte) (sym c.in-NumberByte.is)

pub returns-in-BasedByte : goal.returns-in-BasedByte
unfolding agree_below
returns-in-BasedByte c = from_table VERILOG_CLASSES 8 is_based_byte c.args.byte (omega arith) refl ∙ ap (λ (k : Class). in_class k c.args.byte) (sym c.in-BasedByte.is)

pub returns-in-Graphic : goal.returns-in-Graphic
unfolding agree_below
returns-in-Graphic c = from_table VERILOG_CLASSES 16 is_graphic c.args.byte (omega arith) refl ∙ ap (λ (k : Class). in_class k c.args.byte) (sym c.in-Graphic.is)

pub returns-in-VerilogStringByte : goal.returns-in-VerilogStringByte
unfolding agree_below
returns-in-VerilogStringByte c = from_table VERILOG_CLASSES 32 is_verilog_string_byte c.args.byte (omega arith) refl ∙ ap (λ (k : Class). in_class k c.args.byte) (sym c.in-VerilogStringByte.is)

pub returns-in-LineByte : goal.returns-in-LineByte
unfolding agree_below
returns-in-LineByte c = from_table VERILOG_CLASSES 64 is_line_byte c.args.byte (omega arith) refl ∙ ap (λ (k : Class). in_class k c.args.byte) (sym c.in-LineByte.is)

pub returns-in-CommentByte : goal.returns-in-CommentByte
unfolding agree_below
returns-in-CommentByte c = from_table VERILOG_CLASSES 128 is_comment_byte c.args.byte (omega arith) refl ∙ ap (λ (k : Class). in_class k c.args.byte) (sym c.in-CommentByte.is)
