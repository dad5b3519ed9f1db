use Rattle.std.proofs.Common.{true, refl, sym, subst}
use Rattle.bpf_shared.specs.declared.events.Size.{Size}
use Rattle.bpf_shared.specs.declared.events.Event.TheVariants.{Store}
use Rattle.bpf_shared.specs.declared.events.Event.{Event}
use Rattle.bpf_shared.specs.Access.{bytes_in}
use Rattle.bpf_shared.specs.Passage.{IsWritable}
use Rattle.hop_map.specs.Port.{PortDoes}
use Rattle.hop_map.specs.Noting.{CallNotes}
use Rattle.hop_cpu.specs.Serving.{serves_span}
use Rattle.hop_cpu.proofs.Calling.{called, is_running, is_writable, same, same_held}
use Rattle.hop_cpu.proofs.cpu.HopCpuShared.value_store.Goals as goal

pub store_word-requires-clause-place : goal.store_word-requires-clause-place
store_word-requires-clause-place g c =
    is_writable c.args.self.now c.self.inside.table.now c.self.inside.port c.self.view_is c.args._cpu c.requires.serves c.args.at.at 8
    (subst (λ (z : Size). IsWritable c.args.self.now.table.about.shape (serves_span c.args.self.now c.args._cpu) c.args.at.at (bytes_in z))
    c.in-Double.is c.requires.place)

pub store_part-requires : goal.store_part-requires
store_part-requires g c = record {
  fits = c.self.invariant;
  in_run = is_running c.args.self.now c.self.inside.table.now c.self.inside.port c.self.view_is c.args._cpu c.requires.serves true c.requires.in_run;
  place = is_writable c.args.self.now c.self.inside.table.now c.self.inside.port c.self.view_is c.args._cpu c.requires.serves c.args.at.at
      (bytes_in c.args.size) c.requires.place;
}

pub returns-in-Double-clause-stored : goal.returns-in-Double-clause-stored
returns-in-Double-clause-stored g c = called c.args.self.now c.self.inside.table.now c.self.inside.port c.self.view_is c.args._cpu
    c.requires.serves c.store_word.new.self (Store c.args.at.at c.args.size c.args.word)
    (subst (λ (z : Size). PortDoes c.self.inside.table.now.about c.self.inside.port (Store c.args.at.at z c.args.word)
    c.store_word.new.self) (sym c.in-Double.is) c.store_word.ensures.stored)
    (subst (λ (z : Size). CallNotes c.self.inside.table.now.about (Store c.args.at.at z c.args.word) c.self.inside.port.known
    c.store_word.new.self.known) (sym c.in-Double.is) c.store_word.ensures.noted)

pub returns-in-Double-clause-held : goal.returns-in-Double-clause-held
returns-in-Double-clause-held g c = same_held c.args.self.now c.self.inside.table.now c.self.inside.port c.self.view_is c.args._cpu
    c.requires.serves c.store_word.new.self (Store c.args.at.at c.args.size c.args.word)
    (subst (λ (z : Size). PortDoes c.self.inside.table.now.about c.self.inside.port (Store c.args.at.at z c.args.word)
    c.store_word.new.self) (sym c.in-Double.is) c.store_word.ensures.stored) refl

pub returns-in_default : goal.returns-in_default
returns-in_default g c =
    let e : Event = Store c.args.at.at c.args.size c.args.word in
    let d = c.store_part.ensures.stored in record {
      stored = called c.args.self.now c.self.inside.table.now c.self.inside.port c.self.view_is c.args._cpu c.requires.serves
          c.store_part.new.self e d c.store_part.ensures.noted;
      held = same_held c.args.self.now c.self.inside.table.now c.self.inside.port c.self.view_is c.args._cpu c.requires.serves c.store_part.new.self e d refl;
      same = same c.args.self.now c.self.inside.table.now c.self.inside.port c.self.view_is c.args._cpu c.requires.serves
          c.store_part.new.self e d c.requires.in_run c.store_part.ensures.in_run;
    }
