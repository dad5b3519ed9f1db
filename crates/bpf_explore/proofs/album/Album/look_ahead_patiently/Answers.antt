use Rattle.std.proofs.Common.{subst}
use Rattle.bpf_machine.specs.Machine.{MachineState}
use Rattle.bpf_explore.specs.Album.{IsNumbered}
use Rattle.bpf_explore.proofs.ScoutLaws.{leads_as}
use Rattle.bpf_explore.proofs.album.Album.look_ahead_patiently.Goals as goal

pub returns-clause-turn : goal.returns-clause-turn
returns-clause-turn c =
    let old = c.restore.new.self.machine in
    let mid = c.turn_ahead-made.new.self.machine in
    let new = c.refill.new.self.machine in
    let made = c.turn_ahead-made.ensures in
    let numbers = c.enter.new.room.numbers.items in (
      new,
      record {
        old = old;
        mid = mid;
        at = c.in_ok-restore.ensures.ok;
        leads = leads_as old mid c.args.cpu c.turn_ahead-made.result c.in_ok-ahead.ahead c.in_ok-ahead.ensures made.turns made.ahead made.runs;
        refilled = c.refill.ensures.refills;
      },
      subst (λ (m : MachineState). IsNumbered c.enter.new.self.stock m numbers) c.enter.ensures.same c.in_ok-enter.ensures.numbered,
    )
