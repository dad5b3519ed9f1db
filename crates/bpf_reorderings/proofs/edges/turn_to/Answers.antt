use Rattle.std.proofs.Common.{◌≡◌, ◌<◌, Bool, ℕ, List, true, length, sym, subst, arith}
use Rattle.bpf_x86.specs.Machine.{TurnOf}
use Rattle.bpf_buffering.specs.Search.{BufferedState}
use Rattle.bpf_patience.specs.Ends.{LeadsToX86}
use Rattle.bpf_reorderings.specs.Private.Searching.{IsMovedTo}
use Rattle.bpf_reorderings.proofs.Marking.{leads_there, none_added}
use Rattle.bpf_reorderings.proofs.edges.turn_to.Goals as goal

pub returns-clause-same : goal.returns-clause-same
returns-clause-same c =
    let old = c.args.explorer.now.kept in
    let new = c.turn.new.self.kept in
    none_added old new c.turn.ensures.extends (omega arith)

pub returns-clause-inside : goal.returns-clause-inside
returns-clause-inside c =
    let old = c.args.explorer.now.kept in
    let new = c.turn.new.self.kept in
    let same : new ≡ old = none_added old new c.turn.ensures.extends (omega arith) in
    let moved = subst (λ (b : Bool). IsMovedTo b new c.args.place (TurnOf c.args.cpu) c.in_ok-to.to) c.requires.patient c.in_ok-to.ensures.moved in
    subst (λ (n : ℕ). n < length old) (sym c.in_ok-number.ensures) (subst (λ (ms : List BufferedState). c.in_ok-to.to < length ms) same moved.0)

pub returns-clause-leads : goal.returns-clause-leads
returns-clause-leads c =
    let old = c.args.explorer.now.kept in
    let new = c.turn.new.self.kept in
    let same : new ≡ old = none_added old new c.turn.ensures.extends (omega arith) in
    let moved = subst (λ (b : Bool). IsMovedTo b new c.args.place (TurnOf c.args.cpu) c.in_ok-to.to) c.requires.patient c.in_ok-to.ensures.moved in
    let here = subst (λ (ms : List BufferedState). IsMovedTo true ms c.args.place (TurnOf c.args.cpu) c.in_ok-to.to) same moved in
    subst (LeadsToX86 old c.args.place (TurnOf c.args.cpu)) (sym c.in_ok-number.ensures)
    (leads_there old c.args.place (TurnOf c.args.cpu) c.in_ok-to.to c.requires.place here)
