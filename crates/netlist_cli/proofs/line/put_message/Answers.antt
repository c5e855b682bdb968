use Rattle.netlist_cli.specs.Lines.{message_then, usage}
use Rattle.netlist_cli.proofs.line.put_message.Goals as goal

pub returns-in-Text : goal.returns-in-Text
unfolding message_then
returns-in-Text g c = λ b rest h. c.put_fault.ensures b rest (rw c.in-Text.is at h)

pub returns-in-ReadFault : goal.returns-in-ReadFault
unfolding message_then
returns-in-ReadFault g c = λ b rest h. c.put.ensures b rest (rw c.in-ReadFault.is at h)

pub returns-in-WriteFault : goal.returns-in-WriteFault
unfolding message_then
returns-in-WriteFault g c = λ b rest h. c.put-in-WriteFault.ensures b rest (rw c.in-WriteFault.is at h)

pub returns-in-Usage : goal.returns-in-Usage
unfolding message_then usage
returns-in-Usage g c = λ b rest h. c.put-in-Usage.ensures b rest (rw c.in-Usage.is at h)

pub returns-in-NoMemory : goal.returns-in-NoMemory
unfolding message_then
returns-in-NoMemory g c = λ b rest h. c.put-in-NoMemory.ensures b rest (rw c.in-NoMemory.is at h)

pub returns-in-InputLimit : goal.returns-in-InputLimit
unfolding message_then
returns-in-InputLimit g c = λ b rest h. c.put-in-InputLimit.ensures b rest (rw c.in-InputLimit.is at h)

pub returns-in-Refused : goal.returns-in-Refused
unfolding message_then
returns-in-Refused g c = λ b rest h. c.put_refusal.ensures b rest (rw c.in-Refused.is at h)

pub returns-in-RefusedByTool : goal.returns-in-RefusedByTool
unfolding message_then
returns-in-RefusedByTool g c = λ b rest h. c.put_tool_refusal.ensures b rest (rw c.in-RefusedByTool.is at h)

pub returns-in-DesignLimit : goal.returns-in-DesignLimit
unfolding message_then
returns-in-DesignLimit g c = λ b rest h. c.put_limit.ensures b rest (rw c.in-DesignLimit.is at h)

pub returns-in-FlatLimit : goal.returns-in-FlatLimit
unfolding message_then
returns-in-FlatLimit g c = λ b rest h. c.put_limit-in-FlatLimit.ensures b rest (rw c.in-FlatLimit.is at h)
