use Rattle.edif_parts.proofs.PortLaws.{plain_text, port_read, port_read_ident, sound_port}
use Rattle.edif_parts.proofs.ports.port_of.Goals as goal

pub returns-clause-ident : goal.returns-clause-ident
returns-clause-ident c = port_read_ident _ c.args.port.now (record { name = c.in_ok-name.name; items = c.in_ok-items.items }) c.in_ok-name.ensures.name

pub returns-clause-summary : goal.returns-clause-summary
returns-clause-summary c = port_read _ c.args.port.now (record { name = c.in_ok-name.name; items = c.in_ok-items.items }) c.in_ok-properties.properties.items c.in_ok-name.ensures.name c.in_ok-name.ensures.small c.in_ok-items.ensures c.in_ok-properties.ensures.values

pub returns-clause-sound : goal.returns-clause-sound
returns-clause-sound c = λ h. sound_port _ (record { name = c.in_ok-name.name; items = c.in_ok-items.items }) c.in_ok-properties.properties.items c.in_ok-items.ensures (c.in_ok-name.ensures.sound h.name) (c.in_ok-properties.ensures.sound h.props)

pub returns-clause-text : goal.returns-clause-text
returns-clause-text c = plain_text _ c.args.port.now c.in_ok-name.name c.in_ok-name.ensures.name c.in_ok-name.ensures.small
