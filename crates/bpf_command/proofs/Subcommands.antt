-- Where `clap` finds no fault, the words name one of the program's commands.
use Rattle.std.proofs.Common.{◌∙◌, ap, sym, true≢false, ◌≡◌, List, [], ◌∷◌, Bool, true, false, Option, Some, None, option_map, is_some, refl, inl, inr, cond}
use Rattle.std.specs.Prelude.{IfSome, IsSomeAnd, find}
use Rattle.std.specs.Option.{option_map_or}
use Rattle.clap.specs.Kinds.{Kinds, or_else}
use Rattle.clap.specs.Simple.{Shape, argument_words, built, entered, label_of, names_of, rows_at, subcommand_rows}
use Rattle.clap.specs.Faults.{check_fault, defaults_fault, entered_fault, is_simple_and_free, level_fault, settle_fault, walk_fault}
use Rattle.clap.specs.Walk.{Held, Row, Text, answers_to, finished, nothing_held, settled, stop_after, walk, walk_from}
use Rattle.clap.specs.Words.{fault_of, is_simple, subcommand_name_of, subcommand_of, subcommand_rows_of}
use Rattle.clap.specs.declared.parser.matches.ArgMatches.{ArgMatches}
use Rattle.clap.specs.declared.parser.matches.ArgMatches.TheViews.{out-ArgMatches, out-SubCommand}
use Rattle.clap.specs.declared.parser.matches.SubCommand.{SubCommand}
use Rattle.std.specs.Prelude.{Box}
use Rattle.std.specs.Box.{box_value}
use Rattle.std.specs.Str.{bytes_eq}
use Rattle.std.proofs.lemmas.Slice.Eq.{bytes_eq-Decides}
use Rattle.bpf_command.specs.CommandLine.{IsCommandName, ebpf}
use Rattle.bpf_command.proofs.Walks.{first_free, last_free}

abbrev pub NamesKnown : Option (Text × List Row) → Type 0
NamesKnown found = IsSomeAnd found (λ p. IsCommandName p.0)

abbrev AllKnown : List Shape → Type 0
AllKnown [] = Unit {0}
AllKnown (s ∷ rest) = IsCommandName s.name × AllKnown rest

find_known : (words : List Text) (test : Shape → Bool) (subs : List Shape) → AllKnown subs
    → is_some (option_map (λ s. rows_at s words) (find test subs)) ≡ true
    → NamesKnown (option_map (λ s. rows_at s words) (find test subs))
find_known words test [] known e = cc
find_known words test (s ∷ rest) known e =
    elim (test s) as (λ b. is_some (option_map (λ s. rows_at s words) (cond b (Some s) (find test rest))) ≡ true
    → NamesKnown (option_map (λ s. rows_at s words) (cond b (Some s) (find test rest)))) [
      | true ↦ λ _. known.0
      | false ↦ find_known words test rest known.1
    ] e

entered_known : (stop : Option (Text × List Text)) → is_some (entered (built ebpf) stop) ≡ true → NamesKnown (entered (built ebpf) stop)
entered_known None e = cc
entered_known (Some p) e = find_known p.1 (λ s. answers_to p.0 (label_of s)) (built ebpf).subs (
  inr (inl refl),
  (
    inr (inr (inl refl)),
    (
      inr (inr (inr (inl refl))),
      (
        inr (inr (inr (inr (inl refl)))),
        (
          inr (inr (inr (inr (inr (inl refl))))),
          (
            inr (inr (inr (inr (inr (inr (inl refl)))))),
            (
              inr (inr (inr (inr (inr (inr (inr (inl refl))))))),
              (inr (inr (inr (inr (inr (inr (inr (inr refl))))))), (inl refl, tt)),
            ),
          ),
        ),
      ),
    ),
  ),
) e

has_command : (rows : List Row) (b : Bool) → check_fault (built ebpf).top rows b ≡ [] → b ≡ true
has_command rows true e = refl
has_command rows false e = cc

-- where the walk over the program's own words stops: the subcommand and its words
abbrev pub stop_of : List Text → Option (Text × List Text)
stop_of words = stop_after (built ebpf).top.rules (names_of (built ebpf)) (argument_words ebpf words)

abbrev end_of : List Text → Held
end_of words = (walk (built ebpf).top.rules (names_of (built ebpf)) nothing_held (argument_words ebpf words)).held

abbrev last_check : List Text → Kinds
last_check words = check_fault (built ebpf).top (finished (built ebpf).top.rules (end_of words)) (is_some (entered (built ebpf) (stop_of words)))

-- words with no fault have none in the subcommand, and none that the last check finds
pub parts_free : (words : List Text) → fault_of ebpf words ≡ [] → (entered_fault (built ebpf) (stop_of words) ≡ []) × (last_check words ≡ [])
parts_free words e =
    let top = (built ebpf).top in
    let last = last_check words in
    let fourth = defaults_fault (settled top.rules (end_of words)).rows top.rules in
    let third = settle_fault top.rules top.args_override_self (end_of words) in
    let second = entered_fault (built ebpf) (stop_of words) in
    let first = walk_fault top (names_of (built ebpf)) (walk_from nothing_held) (argument_words ebpf words) in
    let after_first = last_free first (or_else second (or_else third (or_else fourth last))) e in
    let after_second = last_free second (or_else third (or_else fourth last)) after_first in
    let after_third = last_free third (or_else fourth last) after_second in
    (first_free second (or_else third (or_else fourth last)) after_first, last_free fourth last after_third)

-- a command of another name
pub other_name : (own name : Text) → bytes_eq name own ≡ false → name ≡ own → ⊥
other_name own name other is = true≢false (sym (ap (λ t. bytes_eq t own) is ∙ (bytes_eq-Decides own own).1 refl) ∙ other)

-- what holds of each subcommand that is parsed with no fault
module _ (Known : Text × List Row → Type 0) where
  abbrev pub AllHave : List Shape → Type 0
  AllHave [] = Unit {0}
  AllHave (s ∷ rest) = ((words : List Text) → level_fault s [] nothing_held words false [] ≡ [] → Known (rows_at s words)) × AllHave rest

  found_has : (words : List Text) (test : Shape → Bool) (subs : List Shape) → AllHave subs
      → option_map_or (λ s. level_fault s [] nothing_held words false []) (find test subs) [] ≡ []
      → IfSome (option_map (λ s. rows_at s words) (find test subs)) Known
  found_has words test [] all e = tt
  found_has words test (s ∷ rest) all e =
      elim (test s) as (λ b. option_map_or (λ s. level_fault s [] nothing_held words false []) (cond b (Some s) (find test rest)) [] ≡ []
      → IfSome (option_map (λ s. rows_at s words) (cond b (Some s) (find test rest))) Known) [
        | true ↦ λ e. all.0 words e
        | false ↦ λ e. found_has words test rest all.1 e
      ] e

  entered_has : AllHave (built ebpf).subs → (stop : Option (Text × List Text)) → entered_fault (built ebpf) stop ≡ [] → IfSome (entered (built ebpf) stop) Known
  entered_has all None e = tt
  entered_has all (Some p) e = found_has p.1 (λ s. answers_to p.0 (label_of s)) (built ebpf).subs all e

  pub found_known : AllHave (built ebpf).subs → (words : List Text) → fault_of ebpf words ≡ [] → IfSome (subcommand_of ebpf words) Known
  found_known all words e = entered_has all (stop_of words) (parts_free words e).0

pub names_known : (words : List Text) → fault_of ebpf words ≡ [] → NamesKnown (subcommand_of ebpf words)
names_known words e =
    entered_known (stop_of words) (has_command (finished (built ebpf).top.rules (end_of words))
    (is_some (entered (built ebpf) (stop_of words))) (parts_free words e).1)

-- the same of the name that the matches have
pub name_known : (m : ArgMatches) (words : List Text) → fault_of ebpf words ≡ [] → subcommand_rows_of m ≡ subcommand_of ebpf words →
    IsSomeAnd (subcommand_name_of m) IsCommandName
name_known m words e found = by_name (out-ArgMatches m).subcommand (rw found (names_known words e))
  where
    by_name : {Z : Type 0} (b : Option (Box SubCommand Z)) → NamesKnown (subcommand_rows b) → IsSomeAnd
        (option_map (λ b. (out-SubCommand (box_value b)).name.now) b) IsCommandName
    by_name None h = h
    by_name (Some b) h = h

-- clap's contract states what is found by such a command line
pub is_matched : is_simple ebpf ≡ true
is_matched = refl

-- clap's contract states the faults of such a command line
pub is_told : is_simple_and_free ebpf ≡ true
is_told = refl
