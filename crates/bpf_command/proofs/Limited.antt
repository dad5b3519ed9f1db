-- Where `clap` finds no fault, an option that takes a number has one of its range, or its default.
use Rattle.std.proofs.Common.{sym, subst, true≢false, ◌≡◌, ℕ, List, [], ◌∷◌, Bool, true, false, cond, codes, Option, Some, None, refl}
use Rattle.std.specs.Prelude.{length, option_and_then, IsSomeAnd, find}
use Rattle.std.specs.Option.{option_map_or}
use Rattle.std.specs.Str.{bytes_eq}
use Rattle.clap.specs.Facts.{explicit_source}
use Rattle.clap.specs.Kinds.{range_kinds, or_else}
use Rattle.clap.specs.Simple.{filled}
use Rattle.clap.specs.Faults.{repeat_fault, values_fault}
use Rattle.clap.specs.ValueTests.{accepts}
use Rattle.clap.specs.Walk.{with_default, row_text, Row, Text, has_row, more_values, with_values}
use Rattle.clap.specs.declared.builder.value_parser.Reading.TheVariants.{AsWritten}
use Rattle.clap.specs.declared.builder.value_parser.ValueParser.TheVariants.{Unsigned}
use Rattle.clap.specs.declared.parser.matches.ValueSource.TheVariants.{DefaultValue}
use Rattle.clap.proofs.ValueTestLemmas.{accepts-Accepts}
use Rattle.bpf_command.specs.CommandLine.{HasLimited, limited}
use Rattle.bpf_command.proofs.Ranges as range
use Rattle.bpf_command.proofs.Ranges.{find_missing}
use Rattle.bpf_command.proofs.Walks.{Keeps, last_free}

module _ (id : Text) (most : ℕ) (same : bytes_eq id id ≡ true) (fits : accepts false (Unsigned 0 most) (codes "1000000") ≡ true) where
  abbrev pub AreFine : List Row → Type 0
  AreFine = range.AreFine id 0 most

  pub limited_keeps : Keeps AreFine false (filled (limited id most))
  limited_keeps [] rows e fine = cc
  limited_keeps (v ∷ vs) rows e fine =
      let count = range_kinds 1 1 (length (v ∷ vs)) in
      let repeat = repeat_fault false id rows in
      let own = values_fault (filled (limited id most)) (v ∷ vs) in
      let passed = range.first_passes id 0 most v vs (last_free repeat own (last_free count (or_else repeat own) e)) in
      range.used_fine id 0 most id (v ∷ vs) rows (λ same. (refl, refl, passed)) fine

  abbrev HasRow : Option Row → Type 0
  HasRow r = IsSomeAnd (option_and_then row_text r) (range.InRange id 0 most)
      × (option_map_or (λ r. explicit_source r.source) r false ≡ false → option_and_then row_text r ≡ Some (codes "1000000"))

  given_row : (r : Option Row) → IsSomeAnd r (range.IsGiven id 0 most) → HasRow r
  given_row None h = absurd h
  given_row (Some r) h = (range.given_text id 0 most r h, λ e. absurd (true≢false (rw h.1 at e)))

  abbrev default_row : Row
  default_row = record {
    id = id;
    values = codes "1000000" ∷ [];
    count = None;
    source = Some DefaultValue;
    reading = AsWritten;
  }

  has_default : HasRow (find (λ r. bytes_eq r.id id) (default_row ∷ []))
  has_default = rw same (accepts-Accepts false (Unsigned 0 most) (codes "1000000") fits, λ e. refl)

  -- the option's default is one of its range
  pub with_limited : (rows : List Row) → AreFine rows → HasLimited id most (with_default rows (filled (limited id most)))
  with_limited rows fine = go (has_row id rows) refl
    where
      go : (b : Bool) → has_row id rows ≡ b → HasLimited id most (cond b rows (with_values id AsWritten DefaultValue (codes "1000000" ∷ []) rows))
      go true e = given_row (find (λ r. bytes_eq r.id id) rows) (range.find_fine id 0 most rows fine e)
      go false e = subst HasRow (sym (find_missing id (more_values DefaultValue (codes "1000000" ∷ [])) _ rows e)) has_default
