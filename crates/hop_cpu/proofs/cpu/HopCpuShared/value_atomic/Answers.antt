use Rattle.std.proofs.Common.{true, refl, sym, subst}
use Rattle.bpf_shared.specs.declared.events.Size.{Size}
use Rattle.bpf_shared.specs.declared.events.Event.TheVariants.{Atomic}
use Rattle.bpf_shared.specs.declared.events.Event.{Event}
use Rattle.bpf_shared.specs.Access.{bytes_in}
use Rattle.bpf_shared.specs.Passage.{IsWritable}
use Rattle.hop_map.specs.Port.{PortDoes}
use Rattle.hop_map.specs.Noting.{CallNotes}
use Rattle.hop_cpu.specs.Serving.{serves_span}
use Rattle.hop_cpu.proofs.Calling.{called, is_running, is_writable, same, same_held}
use Rattle.hop_cpu.proofs.cpu.HopCpuShared.value_atomic.Goals as goal

pub atomic_word-requires-clause-place : goal.atomic_word-requires-clause-place
atomic_word-requires-clause-place g c =
    is_writable c.args.self.now c.self.inside.table.now c.self.inside.port c.self.view_is c.args._cpu c.requires.serves c.args.at.at 8
    (subst (λ (z : Size). IsWritable c.args.self.now.table.about.shape (serves_span c.args.self.now c.args._cpu) c.args.at.at (bytes_in z))
    c.in-Double.is c.requires.place)

pub atomic_part-requires : goal.atomic_part-requires
atomic_part-requires g c = record {
  fits = c.self.invariant;
  in_run = is_running c.args.self.now c.self.inside.table.now c.self.inside.port c.self.view_is c.args._cpu c.requires.serves true c.requires.in_run;
  place = is_writable c.args.self.now c.self.inside.table.now c.self.inside.port c.self.view_is c.args._cpu c.requires.serves c.args.at.at
      (bytes_in c.args.size) c.requires.place;
  wide = c.requires.wide;
}

pub returns-in-Double-clause-changed : goal.returns-in-Double-clause-changed
returns-in-Double-clause-changed g c = called c.args.self.now c.self.inside.table.now c.self.inside.port c.self.view_is c.args._cpu
    c.requires.serves c.atomic_word.new.self (Atomic c.args.at.at c.args.size c.args.op c.args.operand c.args.expected c.atomic_word.result)
    (subst (λ (z : Size). PortDoes c.self.inside.table.now.about c.self.inside.port
    (Atomic c.args.at.at z c.args.op c.args.operand c.args.expected c.atomic_word.result) c.atomic_word.new.self) (sym c.in-Double.is)
    c.atomic_word.ensures.changed)
    (subst (λ (z : Size). CallNotes c.self.inside.table.now.about
    (Atomic c.args.at.at z c.args.op c.args.operand c.args.expected c.atomic_word.result) c.self.inside.port.known
    c.atomic_word.new.self.known) (sym c.in-Double.is) c.atomic_word.ensures.noted)

pub returns-in-Double-clause-held : goal.returns-in-Double-clause-held
returns-in-Double-clause-held g c = same_held c.args.self.now c.self.inside.table.now c.self.inside.port c.self.view_is c.args._cpu
    c.requires.serves c.atomic_word.new.self (Atomic c.args.at.at c.args.size c.args.op c.args.operand c.args.expected c.atomic_word.result)
    (subst (λ (z : Size). PortDoes c.self.inside.table.now.about c.self.inside.port
    (Atomic c.args.at.at z c.args.op c.args.operand c.args.expected c.atomic_word.result) c.atomic_word.new.self) (sym c.in-Double.is)
    c.atomic_word.ensures.changed) refl

pub returns-in_default : goal.returns-in_default
returns-in_default g c =
    let e : Event = Atomic c.args.at.at c.args.size c.args.op c.args.operand c.args.expected c.atomic_part.result in
    let d = c.atomic_part.ensures.changed in record {
      changed = called c.args.self.now c.self.inside.table.now c.self.inside.port c.self.view_is c.args._cpu c.requires.serves
          c.atomic_part.new.self e d c.atomic_part.ensures.noted;
      fits = c.atomic_part.ensures.small;
      held = same_held c.args.self.now c.self.inside.table.now c.self.inside.port c.self.view_is c.args._cpu c.requires.serves c.atomic_part.new.self e d refl;
      same = same c.args.self.now c.self.inside.table.now c.self.inside.port c.self.view_is c.args._cpu c.requires.serves
          c.atomic_part.new.self e d c.requires.in_run c.atomic_part.ensures.in_run;
    }
