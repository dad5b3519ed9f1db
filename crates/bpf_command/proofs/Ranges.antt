-- Rows of an option that takes a number in a range: a walk over words with no fault keeps them so.
use Rattle.std.proofs.Common.{sym, ◌∙◌, true≢false, ◌≡◌, ◌||◌, ◌++◌, ℕ, List, [], ◌∷◌, Bool, true, false, cond, Option, Some, None, option_map, refl}
use Rattle.std.specs.Prelude.{IfSome, IsSomeAnd, find, slice_get}
use Rattle.std.specs.Str.{bytes_eq}
use Rattle.clap.specs.Faults.{check_fault, defaults_fault, level_fault, settle_fault, walk_fault}
use Rattle.clap.specs.Kinds.{or_else, value_kinds, values_kinds}
use Rattle.clap.specs.Simple.{Shape}
use Rattle.clap.specs.Values.{read_as, IsUnsignedIn, refused_kind}
use Rattle.clap.specs.ValueTests.{accepts}
use Rattle.clap.specs.Walk.{row_text, Row, Rule, Text, at_row, finished, has_row, more_values, nothing_held, settled, walk, walk_from, with_values, without}
use Rattle.clap.specs.declared.builder.value_parser.Reading.TheVariants.{AsWritten}
use Rattle.clap.specs.declared.builder.value_parser.ValueParser.TheVariants.{Unsigned}
use Rattle.clap.specs.declared.parser.matches.ValueSource.{ValueSource}
use Rattle.clap.specs.declared.parser.matches.ValueSource.TheVariants.{CommandLine, DefaultValue}
use Rattle.clap.proofs.ValueTestLemmas.{accepts-Accepts}
use Rattle.bpf_command.proofs.Walks.{Keeps, first_free, last_free, settle_kept, walk_kept}

-- what follows a cut of rows by an id
pub find_missing : (id : Text) (change : Row → List Row) (missing rows : List Row) → has_row id rows ≡ false
    → find (λ r. bytes_eq r.id id) (at_row id change missing rows) ≡ find (λ r. bytes_eq r.id id) missing
find_missing id change missing [] e = refl
find_missing id change missing (r ∷ rest) e = go (bytes_eq r.id id) refl (find_missing id change missing rest) e
  where
    go : (b : Bool) → bytes_eq r.id id ≡ b → (has_row id rest ≡ false → find (λ r. bytes_eq r.id id) (at_row id change missing rest) ≡ find
        (λ r. bytes_eq r.id id) missing)
        → (b || has_row id rest) ≡ false
        → find (λ r. bytes_eq r.id id) (cond b (change r ++ rest) (r ∷ at_row id change missing rest)) ≡ find (λ r. bytes_eq r.id id) missing
    go true is later e = cc
    go false is later e = rw is (later e)

-- a rule without a default changes nothing
pub no_default : (b : Bool) (rows : List Row) → cond b rows rows ≡ rows
no_default true rows = refl
no_default false rows = refl

module _ (id : Text) (low high : ℕ) where
  abbrev pub InRange : Text → Type 0
  InRange = IsUnsignedIn low high

  -- what a use of the option leaves
  abbrev pub IsGiven : Row → Type 0
  IsGiven r = (r.reading ≡ AsWritten) × (r.source ≡ Some CommandLine) × IsSomeAnd (slice_get r.values 0) InRange

  abbrev pub IsFine : Row → Type 0
  IsFine r = bytes_eq r.id id ≡ true → IsGiven r

  abbrev pub AreFine : List Row → Type 0
  AreFine [] = Unit {0}
  AreFine (r ∷ rest) = IsFine r × AreFine rest

  both_fine : (a b : List Row) → AreFine a → AreFine b → AreFine (a ++ b)
  both_fine [] b fa fb = fb
  both_fine (r ∷ rest) b fa fb = (fa.0, both_fine rest b fa.1 fb)

  at_row_fine : (other : Text) (change : Row → List Row) (missing rows : List Row) → ((r : Row) → IsFine r → AreFine (change r)) → AreFine
      missing → AreFine rows
      → AreFine (at_row other change missing rows)
  at_row_fine other change missing [] changed fine all = fine
  at_row_fine other change missing (r ∷ rest) changed fine all =
      elim (bytes_eq r.id other) as (λ b. AreFine (cond b (change r ++ rest) (r ∷ at_row other change missing rest))) [
        | true ↦ both_fine (change r) rest (changed r all.0) all.1
        | false ↦ (all.0, at_row_fine other change missing rest changed fine all.1)
      ]

  first_stays : (values more : List Text) → IsSomeAnd (slice_get values 0) InRange → IsSomeAnd (slice_get (values ++ more) 0) InRange
  first_stays [] more h = absurd h
  first_stays (v ∷ vs) more h = h

  more_fine : (s : ValueSource) (values : List Text) (r : Row) → IsFine r → AreFine (more_values s values r)
  more_fine s values r fine = (
    λ e.
        let given : IsGiven r = fine e in
        (given.0, rw given.1 refl, first_stays r.values values given.2),
    tt,
  )

  pub used_fine : (other : Text) (values : List Text) (rows : List Row)
      → IsFine (record { id = other; values = values; count = None; source = Some CommandLine; reading = AsWritten }) → AreFine rows
      → AreFine (with_values other AsWritten CommandLine values (without other rows))
  used_fine other values rows fine all =
      at_row_fine other (more_values CommandLine values) _ (without other rows) (more_fine CommandLine values) (fine, tt)
      (at_row_fine other (λ _. []) [] rows (λ r f. tt) tt all)

  -- a use of another option, or its default
  pub other_used_fine : (other : Text) (values : List Text) (rows : List Row) → bytes_eq other id ≡ false → AreFine rows
      → AreFine (with_values other AsWritten CommandLine values (without other rows))
  other_used_fine other values rows is fine = used_fine other values rows (λ same. absurd (true≢false (sym same ∙ is))) fine

  -- and one more use, of an option that may have several
  pub more_used_fine : (other : Text) (values : List Text) (rows : List Row) → bytes_eq other id ≡ false → AreFine rows
      → AreFine (with_values other AsWritten CommandLine values rows)
  more_used_fine other values rows is fine =
      at_row_fine other (more_values CommandLine values) _ rows (more_fine CommandLine values) ((λ same. absurd (true≢false (sym same ∙ is))), tt) fine

  pub default_fine : (other : Text) (values : List Text) (rows : List Row) → bytes_eq other id ≡ false → AreFine rows
      → AreFine (cond (has_row other rows) rows (with_values other AsWritten DefaultValue values rows))
  default_fine other values rows is fine =
      elim (has_row other rows) as (λ b. AreFine (cond b rows (with_values other AsWritten DefaultValue values rows))) [
        | true ↦ fine
        | false ↦ at_row_fine other (more_values DefaultValue values) _ rows (more_fine DefaultValue values)
            ((λ same. absurd (true≢false (sym same ∙ is))), tt) fine
      ]

  accepted : (text : Text) → value_kinds false (Unsigned low high) text ≡ [] → InRange text
  accepted text e = accepts-Accepts false (Unsigned low high) text (go (accepts false (Unsigned low high) text) e)
    where
      go : (b : Bool) → cond b [] (refused_kind (Unsigned low high) ∷ []) ≡ [] → b ≡ true
      go true e = refl
      go false e = cc

  pub first_passes : (v : Text) (vs : List Text) → values_kinds false (Unsigned low high) (v ∷ vs) ≡ [] → InRange v
  first_passes v vs e = accepted v (first_free (value_kinds false (Unsigned low high) v) (values_kinds false (Unsigned low high) vs) e)

  -- ---- rules

  abbrev pub AllKeep : List Rule → Type 0
  AllKeep [] = Unit {0}
  AllKeep (a ∷ rest) = Keeps AreFine false a × AllKeep rest

  pub found_keeps : (test : Rule → Bool) (c : List Rule) → AllKeep c → IfSome (find test c) (Keeps AreFine false)
  found_keeps test [] all = tt
  found_keeps test (a ∷ rest) all =
      elim (test a) as (λ b. IfSome (cond b (Some a) (find test rest)) (Keeps AreFine false)) [
        | true ↦ all.0
        | false ↦ found_keeps test rest all.1
      ]

  -- what a parse of a command's words with no fault leaves
  pub settled_fine : (s : Shape) → s.args_override_self ≡ false → AllKeep s.rules → (words : List Text) → level_fault s [] nothing_held words false [] ≡ []
      → AreFine (settled s.rules (walk s.rules [] nothing_held words).held).rows
  settled_fine s own all words e =
      let end = (walk s.rules [] nothing_held words).held in
      let last = check_fault s (finished s.rules end) false in
      let third = defaults_fault (settled s.rules end).rows s.rules in
      let second = settle_fault s.rules s.args_override_self end in
      let first = walk_fault s [] (walk_from nothing_held) words in
      let keeps : (test : Rule → Bool) → IfSome (find test s.rules) (Keeps AreFine s.args_override_self) = λ test. rw own (found_keeps test s.rules all) in
      let walked : AreFine end.rows = walk_kept AreFine s [] keeps words (walk_from nothing_held)
      (first_free first (or_else second (or_else third last)) e) tt in
      let settles = first_free second (or_else third last) (last_free first (or_else second (or_else third last)) e) in
      settle_kept AreFine s.rules s.args_override_self keeps end settles walked

  -- ---- the option's own row

  pub find_fine : (rows : List Row) → AreFine rows → has_row id rows ≡ true → IsSomeAnd (find (λ r. bytes_eq r.id id) rows) IsGiven
  find_fine [] fine e = cc
  find_fine (r ∷ rest) fine e = go (bytes_eq r.id id) fine.0 (find_fine rest fine.1) e
    where
      go : (b : Bool) → (b ≡ true → IsGiven r) → (has_row id rest ≡ true → IsSomeAnd (find (λ r. bytes_eq r.id id) rest) IsGiven)
          → (b || has_row id rest) ≡ true → IsSomeAnd (cond b (Some r) (find (λ r. bytes_eq r.id id) rest)) IsGiven
      go true here later e = here refl
      go false here later e = later e

  pub if_found : (rows : List Row) → AreFine rows → IfSome (find (λ r. bytes_eq r.id id) rows) IsGiven
  if_found [] fine = tt
  if_found (r ∷ rest) fine = go (bytes_eq r.id id) fine.0 (if_found rest fine.1)
    where
      go : (b : Bool) → (b ≡ true → IsGiven r) → IfSome (find (λ r. bytes_eq r.id id) rest) IsGiven
          → IfSome (cond b (Some r) (find (λ r. bytes_eq r.id id) rest)) IsGiven
      go true here later = here refl
      go false here later = later

  pub as_written : (text : Option Text) → IsSomeAnd text InRange → IsSomeAnd (option_map (read_as AsWritten) text) InRange
  as_written None h = absurd h
  as_written (Some text) h = h

  -- the text of a row that a use left
  pub given_text : (r : Row) → IsGiven r → IsSomeAnd (row_text r) InRange
  given_text r h = rw h.0 (as_written (slice_get r.values 0) h.2)
