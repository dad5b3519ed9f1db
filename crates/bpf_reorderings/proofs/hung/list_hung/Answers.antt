use Rattle.std.proofs.Common.{◌∙◌, ◌+◌, List, inl, inr, refl, sym, subst, arith}
use Rattle.bpf_buffering.specs.Search.{BufferedState}
use Rattle.bpf_reorderings.specs.Private.Answers.{CanRunOut}
use Rattle.bpf_reorderings.specs.Private.Hung.{AllHang, AllBeyondBelow, AreMarked}
use Rattle.bpf_reorderings.proofs.Hanging.{none_hung}
use Rattle.bpf_reorderings.proofs.hung.list_hung.Goals as goal

pub loop-place-init : goal.loop-place-init
loop-place-init c = record {
  same = refl;
  patient = refl;
  hung = subst (AllHang c.args.explorer.now.kept) (sym c.new-hung.ensures.items) (none_hung c.args.explorer.now.kept);
  listed = λ fits i less off. absurd (omega arith);
  out = λ is. cc;
}

pub add_hung-requires-clause-patient : goal.add_hung-requires-clause-patient
add_hung-requires-clause-patient c = c.loop-place.invariant.patient ∙ c.requires.patient

pub add_hung-requires-clause-marked : goal.add_hung-requires-clause-marked
add_hung-requires-clause-marked c =
    subst (λ (kept : List BufferedState). AreMarked kept c.args.marks.now) (sym c.loop-place.invariant.same) c.requires.marked

pub loop-place-preserved : goal.loop-place-preserved
loop-place-preserved c =
    let same = c.loop-place.invariant.same in
    let marks = c.args.marks.now in
    let place = c.loop-place.place in
    record {
      same = c.add_hung.ensures.same ∙ same;
      patient = c.add_hung.ensures.patient ∙ c.loop-place.invariant.patient;
      hung = subst (λ (kept : List BufferedState). AllHang kept c.loop-place.hung.items → AllHang kept c.add_hung.new.hung.items) same
          c.in_ok-fits.ensures.hung c.loop-place.invariant.hung;
      listed = λ is. (
          let two = c.both-fit.ensures.both is in
          subst (λ (kept : List BufferedState). AllBeyondBelow kept marks c.loop-place.hung.items place → AllBeyondBelow kept marks
          c.add_hung.new.hung.items (place + 1)) same (c.in_ok-fits.ensures.listed two.1) (c.loop-place.invariant.listed two.0));
      out = λ is. elim (c.both-fit.ensures.not is) [ inl a ↦ c.loop-place.invariant.out a | inr a ↦ subst CanRunOut same (c.in_ok-fits.ensures.out a) ];
    }

pub returns-clause-listed : goal.returns-clause-listed
returns-clause-listed c fits i less off = c.loop-place.invariant.listed fits i (omega arith) off
