-- Where `clap` finds no fault, an option that takes a count has one of its range, if it is given.
use Rattle.std.proofs.Common.{ℕ, List, [], ◌∷◌, false, Option, Some, None, refl}
use Rattle.std.specs.Prelude.{length, option_and_then, IfSome, IsSomeAnd, find}
use Rattle.std.specs.Str.{bytes_eq}
use Rattle.clap.specs.Kinds.{range_kinds, or_else}
use Rattle.clap.specs.Simple.{filled}
use Rattle.clap.specs.Faults.{repeat_fault, values_fault}
use Rattle.clap.specs.Walk.{row_text, Row, Text}
use Rattle.bpf_command.specs.CommandLine.{HasCount, counted}
use Rattle.bpf_command.proofs.Ranges as range
use Rattle.bpf_command.proofs.Walks.{Keeps, last_free}

module _ (id : Text) (most : ℕ) where
  abbrev pub AreFine : List Row → Type 0
  AreFine = range.AreFine id 1 most

  pub counted_keeps : Keeps AreFine false (filled (counted id most))
  counted_keeps [] rows e fine = cc
  counted_keeps (v ∷ vs) rows e fine =
      let count = range_kinds 1 1 (length (v ∷ vs)) in
      let repeat = repeat_fault false id rows in
      let own = values_fault (filled (counted id most)) (v ∷ vs) in
      let passed = range.first_passes id 1 most v vs (last_free repeat own (last_free count (or_else repeat own) e)) in
      range.used_fine id 1 most id (v ∷ vs) rows (λ same. (refl, refl, passed)) fine

  own_text : (r : Option Row) → IfSome r (range.IsGiven id 1 most) → IfSome (option_and_then row_text r) (range.InRange id 1 most)
  own_text None h = tt
  own_text (Some r) h = some_text (row_text r) (range.given_text id 1 most r h)
    where
      some_text : (text : Option Text) → IsSomeAnd text (range.InRange id 1 most) → IfSome text (range.InRange id 1 most)
      some_text None h = tt
      some_text (Some text) h = h

  pub has_count : (rows : List Row) → AreFine rows → HasCount id most rows
  has_count rows fine = own_text (find (λ r. bytes_eq r.id id) rows) (range.if_found id 1 most rows fine)
