-- The texts that the matches' getters give are those that are among the rows.
use Rattle.std.proofs.Common.{◌≡◌, ◌∙◌, ap, List, [], ◌∷◌, Bool, ◌||◌, codes, map, refl, false, Option, Some, None, option_map, unwrap_or}
use Rattle.clap.specs.Words.{Row, Text, all_of, matched_of, raw_values, rows_of}
use Rattle.clap.specs.declared.parser.matches.Found.{Found}
use Rattle.clap.proofs.WalkLemmas.{raw_values-rows}
use Rattle.std.specs.List.{list_any}
use Rattle.std.specs.Str.{bytes_eq}
use denote.Ref.{Bor}
use Rattle.bpf_command.specs.CommandLine.{names_input, given_texts}

pub texts_in_rows : (f : Found) (id : Text) → option_map raw_values (matched_of f id) ≡ all_of id (rows_of f)
texts_in_rows = raw_values-rows

-- texts that are among the rows
pub some_texts : (id : Text) (rows : List Row) (texts : List Text) → Some texts ≡ all_of id rows → texts ≡ given_texts id rows
some_texts id rows texts is = ap (λ (o : Option (List Text)). unwrap_or o []) is

pub no_texts : (id : Text) (rows : List Row) → None ≡ all_of id rows → [] ≡ given_texts id rows
no_texts id rows is = ap (λ (o : Option (List Text)). unwrap_or o []) is

dash_alike : (names : List (Bor Text)) → list_any (λ (name : Bor Text). bytes_eq name.now (codes "-")) names ≡ list_any
    (λ name. bytes_eq name (codes "-")) (map (λ (name : Bor Text). name.now) names)
dash_alike [] = refl
dash_alike (name ∷ names) = ap (λ (b : Bool). bytes_eq name.now (codes "-") || b) (dash_alike names)

pub dash_given : (names : List (Bor Text)) (rows : List Row) (b : Bool) → Some (map (λ (name : Bor Text). name.now) names) ≡ all_of
    (codes "file") rows → b ≡ list_any (λ (name : Bor Text). bytes_eq name.now (codes "-")) names → b ≡ names_input rows
dash_given names rows b is found = found ∙ dash_alike names ∙ ap (list_any (λ name. bytes_eq name (codes "-")))
    (some_texts (codes "file") rows (map (λ (name : Bor Text). name.now) names) is)

pub no_dash : (rows : List Row) → None ≡ all_of (codes "file") rows → false ≡ names_input rows
no_dash rows is = ap (list_any (λ name. bytes_eq name (codes "-"))) (no_texts (codes "file") rows is)
