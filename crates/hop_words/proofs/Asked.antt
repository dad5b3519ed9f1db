-- A kind of step at a call: from what it asks of a lane to what the table asks of a seat.
use Rattle.std.proofs.Common.{◌≡◌, ℕ, true, List, [], ◌<◌, ap, sym, subst, ◌∙◌}
use Rattle.atomic_table.specs.Table.{Allows, Me, Step}
use Rattle.hop_layout.specs.declared.place.Place.{Place}
use Rattle.hop_layout.specs.declared.about.About.{About}
use Rattle.hop_words.specs.declared.known.Known.{Known}
use Rattle.hop_words.specs.declared.known.Sight.{Sight}
use Rattle.hop_words.specs.declared.known.View.{View}
use Rattle.hop_layout.specs.Layout.{is_place, at}
use Rattle.hop_words.specs.Private.Step.{solo, Leaves}
use Rattle.hop_words.specs.Rule.{Kept}
use Rattle.hop_words.specs.Inside.{Shown, Standing}
use Rattle.hop_words.specs.Private.Inside.{shown, standing, HasLayout, IsOne, stepper_lane, tells}
use Rattle.hop_words.specs.declared.table.HopTable.TheInside.{Inside as InTable}
use Rattle.hop_words.specs.declared.lane.Lane.TheInside.{Inside as InStepper}
use Rattle.hop_layout.proofs.Layouts.{at_inside}
use Rattle.hop_words.proofs.Seating.{allows}

as_asked : (a : About) (slots id : ℕ) (me : Me (Unit {0}) View) (l : Known) (p : Place) (word : ℕ) (f : ℕ → ℕ) (sights : ℕ → List Sight)
    (told : ℕ → Known → Type 0) (st : Step (Unit {0})) → me ≡ (solo l, []) → is_place a.shape p ≡ true → word ≡ at a.shape p
    → Leaves a l p f sights (λ ws n l'. told n l') → Allows (Kept a) slots id me word f (tells told st me)
as_asked a slots id me l p word f sights told st is there at_word step =
    subst (λ (m : Me (Unit {0}) View). Allows (Kept a) slots id m word f (tells told st m)) (sym is)
    (subst (λ (i : ℕ). Allows (Kept a) slots id (solo l, []) i f (tells told st (solo l, []))) (sym at_word)
    (allows a slots id l p f sights (λ ws n l'. told n l') told there (λ ws n x t. t) step))

-- from what a call asks of the table and the lane that it was handed: the seat is the table's, the
-- word lies in it, and the step is allowed there
pub at_word : (t : InTable) (s : InStepper) (x : Shown) (q : Standing) (p : Place) (word : ℕ) (f : ℕ → ℕ) (sights : ℕ → List Sight)
    (told : ℕ → Known → Type 0) (st : Step (Unit {0})) → shown t ≡ x → standing s ≡ q → HasLayout t → IsOne s
    → q.table ≡ x.id → is_place x.about.shape p ≡ true → word ≡ at x.about.shape p → Leaves x.about q.known p f sights (λ ws n l. told n l)
    → (s.seat.table_id ≡ t.table.shared.table_id) × (word < t.table.shared.table_id.words) × Allows (Kept t.table.shared.key)
    t.table.shared.table_id.slots s.seat.id s.seat.me word f (tells told st s.seat.me)
at_word t s x q p word f sights told st table lane laid one own there spot step =
    let a = t.table.shared.key in
    let about : a ≡ x.about = ap (λ (y : Shown). y.about) table in
    let inside : is_place a.shape p ≡ true = ap (λ (y : About). is_place y.shape p) about ∙ there in
    let place : word ≡ at a.shape p = spot ∙ ap (λ (y : About). at y.shape p) (sym about) in
    let within = subst (λ (n : ℕ). at a.shape p < n) (sym laid.0) (at_inside a.shape p inside) in
    let here = subst (λ (y : Standing). Leaves x.about y.known p f sights (λ ws n l. told n l)) (sym lane) step in
    let asked = subst (λ (y : About). Leaves y (stepper_lane s) p f sights (λ ws n l. told n l)) (sym about) here in (
      ap (λ (y : Standing). y.table) lane ∙ (own ∙ sym (ap (λ (y : Shown). y.id) table)),
      subst (λ (n : ℕ). n < t.table.shared.table_id.words) (sym place) within,
      as_asked a t.table.shared.table_id.slots s.seat.id s.seat.me (stepper_lane s) p word f sights told st one.0 inside place asked,
    )
