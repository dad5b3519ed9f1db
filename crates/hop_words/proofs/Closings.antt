-- Words at rest.
use Rattle.std.proofs.Common.{◌≡◌, ℕ, zero, suc, true, List, [], ◌∷◌, slice_index, refl, ap, sym, subst, ◌∙◌}
use mathlib.Core.Option.{some, some-injective, some-ne-none}
use lib.ListN.{get_elem?}
use Rattle.bpf_shared.specs.Shape.{Shape}
use Rattle.hop_layout.specs.declared.place.Place.{Place}
use Rattle.atomic_table.specs.Table.{Final, Seen}
use Rattle.hop_layout.specs.declared.about.About.{About}
use Rattle.hop_words.specs.declared.known.Known.{Known}
use Rattle.hop_words.specs.declared.known.View.{View}
use Rattle.hop_layout.specs.Layout.{mem, at, is_place}
use Rattle.hop_words.specs.Rule.{Kept}
use Rattle.hop_words.specs.Seats.{view, HasSeenBeginning, KeepsWholeHistory}
use Rattle.hop_words.specs.Closing.{AreAllBack}
use Rattle.hop_words.proofs.Gathers.{closes}

got : (ws : List ℕ) (i n : ℕ) → get_elem? ws i ≡ some n → n ≡ slice_index ws i
got [] i n e = absurd (some-ne-none n (sym e))
got (w ∷ ws) zero n e = sym (some-injective w n e)
got (w ∷ ws) (suc i) n e = got ws i n e

-- the number at the place of a word
pub read_at : (h : Shape) (ws : List ℕ) (p : Place) (i n : ℕ) → i ≡ at h p → is_place h p ≡ true → get_elem? ws i ≡ some n → n ≡ mem h ws p
read_at h ws p i n here there e = got ws i n e ∙ (ap (slice_index ws) here ∙ sym (rw there refl))

-- the end of a store, all of whose CPUs are back in the seat that has learned the history
pub ends : (a : About) (id : ℕ) (v : View) (lanes : List Known) (ws : List ℕ) (xs : List (Unit {0})) → v.lanes ≡ lanes → Final
    (Seen (Kept a) id v) ws xs → AreAllBack a lanes
    → ((k : ℕ) (l : Known) → get_elem? lanes k ≡ some l → HasSeenBeginning l v.kept) → KeepsWholeHistory a (view [] v.kept) ws
ends a id v lanes ws xs same final all within =
    let w = closes a id v ws xs final (subst (AreAllBack a) (sym same) all) (λ k l e. within k l (ap (λ (ls : List Known). get_elem? ls k) (sym same) ∙ e)) in
    record { ghost = w.ghost; whole = w.whole; rule = w.rule; empty = w.empty; shows = w.shows }
