use Rattle.std.proofs.Common.{ℕ, List, [], Option, refl, sym, subst}
use Rattle.bpf_machine.specs.Machine.{MachineState, Shows}
use Rattle.bpf_debug.specs.Course.{IsKept}
use Rattle.bpf_file.specs.File.{file_of}
use Rattle.bpf_replies.specs.Script.{first_world_of}
use Rattle.bpf_replies.proofs.script.open_session.Goals as goal

pub returns : goal.returns
returns c =
    let made = c.in_ok-session.ensures in
    let S : MachineState → Type 0 = λ m. Shows m (first_world_of (file_of c.args.file)) in
    record {
      world = made.machine;
      first = subst S (sym made.first) made.machine;
      names = sym made.names;
      breaks = sym made.breaks;
      watch = sym made.watch;
      turns = subst (λ (o : Option (List (ℕ × ℕ))). IsKept o []) (sym made.course) refl;
    }
