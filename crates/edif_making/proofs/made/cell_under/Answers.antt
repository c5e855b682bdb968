use Rattle.std.proofs.Common.{ap, length, map, subst, sym, ◌∙◌}
use Rattle.std.specs.List.{AllByRecursion}
use Rattle.edif_written.specs.Naming.{name_for}
use Rattle.edif_written.specs.Written.{cell_of}
use Rattle.edif_plans.specs.Summaries.{summary_for}
use Rattle.edif_plans.specs.Made.{live_below}
use Rattle.edif_plans.specs.Sound.{IsSoundPort}
use Rattle.edif_making.proofs.made.cell_under.Goals as goal

pub ports_of-requires : goal.ports_of-requires
ports_of-requires c = ap length c.items.ensures ∙ (c.requires.ports ∙ ap length (sym c.items-2.ensures))

pub returns : goal.returns
returns c =
    let contents = c.in_ok-contents.ensures in
    record {
      is_made = record {
        ports = c.in_ok-ports.ports.items;
        instances = contents.instances;
        made_instances = contents.made_instances;
        live = live_below c.args.inside.now.nets c.args.classes c.args.classes.count;
        nets = contents.nets;
        properties = c.in_ok-properties.properties.items;
        is_cell = c.in_ok-whole.ensures contents.made_instances contents.nets contents.are_items
            ∙ ap (λ n. cell_of (name_for c.args.head.now.cell n) c.in_ok-ports.ports.items contents.made_instances contents.nets c.in_ok-properties.properties.items) c.bytes-name.ensures;
        are_ports = record {
          idents = c.in_ok-ports.ensures.idents ∙ c.items.ensures;
          summaries = c.in_ok-ports.ensures.summaries ∙ ap (map summary_for) c.items-2.ensures;
          texts = c.in_ok-ports.ensures.texts;
          sound = λ h. c.in_ok-ports.ensures.sound (subst (AllByRecursion IsSoundPort) (sym c.items-2.ensures) h);
        };
        are_added = contents.are_added;
        are_instances = contents.are_instances;
        are_nets = contents.are_nets;
        are_properties = c.in_ok-properties.ensures.values;
        sound = c.in_ok-properties.ensures.sound;
        word = c.word_of.ensures;
      };
      are_named = contents.are_named;
    }
