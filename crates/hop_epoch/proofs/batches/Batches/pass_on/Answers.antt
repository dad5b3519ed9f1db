use Rattle.std.proofs.Common.{◌≡◌, inr, ℕ, List, [], ◌++◌, append_assoc, ap, sym, subst, ◌∙◌}
use Rattle.hop_words.specs.declared.known.Known.{Known}
use Rattle.hop_words.specs.declared.known.Sight.{Sight}
use Rattle.hop_words.specs.Inside.{Standing}
use Rattle.hop_epoch.specs.declared.batches.Batches.{Batches}
use Rattle.hop_epoch.specs.Batch.{KeepsBatches, SeesRunning}
use Rattle.hop_epoch.proofs.Batching.{running_after, keeps_itself, keeps_then}
use Rattle.hop_epoch.proofs.batches.Batches.pass_on.Goals as goal
use Rattle.hop_epoch.proofs.batches.Batches.pass_on.Goals.{then-is_some+else-not-is_past, else-is_some}

-- what was kept so far, and the map of the batches, which is this one still
record Still (m : ℕ) (l k : Known) (n : ℕ) : Type 0 where
  keeps : KeepsBatches m l k
  map : n ≡ m

still_freed : (m : ℕ) (l past : Known) (freed x : Standing) (p : ℕ) (f s : Batches) → x ≡ freed → s ≡ f → f.map ≡ p → p ≡ m → KeepsBatches m
    l past → KeepsBatches p past freed.known → Still m l x.known s.map
still_freed m l past freed x p f s is self same first kept frees = record {
  keeps = subst (λ (y : Standing). KeepsBatches m l y.known) (sym is)
      (keeps_then m l past freed.known kept (subst (λ (n : ℕ). KeepsBatches n past freed.known) first frees));
  map = ap (λ (y : Batches). y.map) self ∙ (same ∙ first);
}

still_same : (old x : Standing) (b s : Batches) → x ≡ old → s ≡ b → Still b.map old.known x.known s.map
still_same old x b s is self = record {
  keeps = subst (λ (y : Standing). KeepsBatches b.map old.known y.known) (sym is) (keeps_itself b.map old.known);
  map = ap (λ (y : Batches). y.map) self;
}

looked_again : (m : ℕ) (l k aged looked : Known) (n o : ℕ) → Still m l k n → o ≡ n → KeepsBatches n k aged → KeepsBatches o aged looked →
    KeepsBatches m l looked
looked_again m l k aged looked n o still same ages looks =
    keeps_then m l aged looked
    (keeps_then m l k aged still.keeps (subst (λ (x : ℕ). KeepsBatches x k aged) still.map ages))
    (subst (λ (x : ℕ). KeepsBatches x aged looked) (same ∙ still.map) looks)

pub returns-else-is_past-clause-blocked : goal.returns-else-is_past-clause-blocked
returns-else-is_past-clause-blocked c =
    let l = c.args.lane.now.known in
    let first : (more : List Sight) × (c.if-is_some.lane.known.tally ≡ more ++ l.tally) = elim c.if-is_some.branch [
      | then-is_some+else-not-is_past w ↦ (
        w.free.ensures.keeps.sights.0 ++ w.is_past.ensures.looks.more,
        ap (λ (x : Standing). x.known.tally) w.lane-is ∙ (w.free.ensures.keeps.sights.1 ∙
            (ap (λ (z : List Sight). w.free.ensures.keeps.sights.0 ++ z) w.is_past.ensures.looks.sights ∙ sym
            (append_assoc w.free.ensures.keeps.sights.0 w.is_past.ensures.looks.more l.tally))),
      )
      | else-is_some w ↦ ([], ap (λ (x : Standing). x.known.tally) w.lane-is)
    ] in
    let map : c.if-is_some.self.map ≡ c.args.self.now.map = elim c.if-is_some.branch [
      | then-is_some+else-not-is_past w ↦ ap (λ (x : Batches). x.map) w.self-is ∙ (w.free.ensures.same.0 ∙ w.is_past.ensures.same.0)
      | else-is_some w ↦ ap (λ (x : Batches). x.map) w.self-is
    ] in
    inr (running_after c.args.self.now.map l c.age.new.lane.known c.is_past-then-is_some-2.new.lane.known first.0 (c.age.ensures.sights ∙ first.1)
    (subst (λ (n : ℕ). SeesRunning n c.age.new.lane.known c.is_past-then-is_some-2.new.lane.known) (c.age.ensures.same.0 ∙ map)
    (c.is_past-then-is_some-2.ensures.blocked c.if-is_past.false)))

pub returns-else-is_past-clause-keeps : goal.returns-else-is_past-clause-keeps
returns-else-is_past-clause-keeps c =
    let still : Still c.args.self.now.map c.args.lane.now.known c.if-is_some.lane.known c.if-is_some.self.map = elim c.if-is_some.branch [
      | then-is_some+else-not-is_past w ↦ still_freed _ _ _ _ _ _ _ _ w.lane-is w.self-is w.free.ensures.same.0 w.is_past.ensures.same.0
          w.is_past.ensures.looks.keeps w.free.ensures.keeps
      | else-is_some w ↦ still_same _ _ _ _ w.lane-is w.self-is
    ] in
    looked_again _ _ _ _ _ _ _ still c.age.ensures.same.0 c.age.ensures.keeps c.is_past-then-is_some-2.ensures.looks.keeps

pub returns-then-is_past-clause-keeps : goal.returns-then-is_past-clause-keeps
returns-then-is_past-clause-keeps c =
    let still : Still c.args.self.now.map c.args.lane.now.known c.if-is_some.lane.known c.if-is_some.self.map = elim c.if-is_some.branch [
      | then-is_some+else-not-is_past w ↦ still_freed _ _ _ _ _ _ _ _ w.lane-is w.self-is w.free.ensures.same.0 w.is_past.ensures.same.0
          w.is_past.ensures.looks.keeps w.free.ensures.keeps
      | else-is_some w ↦ still_same _ _ _ _ w.lane-is w.self-is
    ] in
    let m = c.args.self.now.map in
    let l = c.args.lane.now.known in
    let looked : KeepsBatches m l c.is_past-then-is_some-2.new.lane.known = looked_again _ _ _ _ _ _ _ still c.age.ensures.same.0
    c.age.ensures.keeps c.is_past-then-is_some-2.ensures.looks.keeps in
    keeps_then m l c.is_past-then-is_some-2.new.lane.known c.free-then-is_past.new.lane.known looked
    (subst (λ (n : ℕ). KeepsBatches n c.is_past-then-is_some-2.new.lane.known c.free-then-is_past.new.lane.known)
    (c.is_past-then-is_some-2.ensures.same.0 ∙ (c.age.ensures.same.0 ∙ still.map)) c.free-then-is_past.ensures.keeps)

pub returns-else-is_some-2-clause-keeps : goal.returns-else-is_some-2-clause-keeps
returns-else-is_some-2-clause-keeps c =
    let still : Still c.args.self.now.map c.args.lane.now.known c.if-is_some.lane.known c.if-is_some.self.map = elim c.if-is_some.branch [
      | then-is_some+else-not-is_past w ↦ still_freed _ _ _ _ _ _ _ _ w.lane-is w.self-is w.free.ensures.same.0 w.is_past.ensures.same.0
          w.is_past.ensures.looks.keeps w.free.ensures.keeps
      | else-is_some w ↦ still_same _ _ _ _ w.lane-is w.self-is
    ] in
    still.keeps
