use Rattle.std.proofs.Common.{◌∙◌, ◌+◌, List, inl, inr, refl, sym, subst, arith}
use Rattle.bpf_machine.specs.Machine.{MachineState}
use Rattle.bpf_explore.specs.Private.Ends.{AreMarked}
use Rattle.bpf_explore.specs.Private.Hung.{AllHang, AllBeyondBelow}
use Rattle.bpf_explore.specs.Private.Replays.{CanRunOut}
use Rattle.bpf_explore.proofs.HungLaws.{none_hung}
use Rattle.bpf_explore.proofs.hung.list_hung.Goals as goal

pub loop-place-init : goal.loop-place-init
loop-place-init c = record {
  same = refl;
  peers = refl;
  hung = subst (AllHang c.args.explorer.now.kept) (sym c.new-hung.ensures.items) (none_hung c.args.explorer.now.kept);
  listed = λ fits i less off. absurd (omega arith);
  out = λ is. cc;
}

pub add_hung-requires-clause-marked : goal.add_hung-requires-clause-marked
add_hung-requires-clause-marked c = (
  c.requires.0,
  subst (λ (kept : List MachineState). AreMarked c.requires.0 kept c.args.marks.now) (sym c.loop-place.invariant.same) c.requires.1,
)

pub loop-place-preserved : goal.loop-place-preserved
loop-place-preserved c =
    let same = c.loop-place.invariant.same in
    let marks = c.args.marks.now in
    let place = c.loop-place.place in
    record {
      same = c.add_hung.ensures.same ∙ same;
      peers = c.add_hung.ensures.peers ∙ c.loop-place.invariant.peers;
      hung = subst (λ (kept : List MachineState). AllHang kept c.loop-place.hung.items → AllHang kept c.add_hung.new.hung.items) same
          c.in_ok-fits.ensures.hung c.loop-place.invariant.hung;
      listed = λ is. (
          let two = c.both-fit.ensures.both is in
          subst (λ (kept : List MachineState). AllBeyondBelow kept marks c.loop-place.hung.items place → AllBeyondBelow kept marks
          c.add_hung.new.hung.items (place + 1)) same (c.in_ok-fits.ensures.listed two.1) (c.loop-place.invariant.listed two.0));
      out = λ is. elim (c.both-fit.ensures.not is) [ inl a ↦ c.loop-place.invariant.out a | inr a ↦ subst CanRunOut same (c.in_ok-fits.ensures.out a) ];
    }

pub returns-clause-listed : goal.returns-clause-listed
returns-clause-listed c fits i less off = c.loop-place.invariant.listed fits i (omega arith) off
