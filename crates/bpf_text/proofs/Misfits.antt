-- Where a line is refused, by its first tokens.
use Rattle.std.proofs.Common.{◌≡◌, ℕ, zero, suc, ◌+◌, ◌-◌, ◌<◌, ◌≤◌, Bool, true, false, ◌||◌, List, [], ◌∷◌, ◌++◌, length, map, take, drop}
use Rattle.std.proofs.Common.{Option, Some, None, Result, Ok, Err, ◌⊎◌, inl, inr, refl, sym, ap, subst, ◌∙◌, arith, length-append}
use Rattle.std.proofs.Common.{append-nil}
use Rattle.std.specs.Prelude.{IsTrue, ◌↔◌, OnErr}
use Rattle.std.proofs.Math.Nat.{eq-or-lt_of_le}
use Rattle.std.proofs.lemmas.List.{length-map, length-take, take-append-le}
use Rattle.bpf_insn.specs.declared.instruction.Insn.TheVariants as insn
use Rattle.bpf_spelling.specs.declared.keywords.Keyword.TheVariants as key
use Rattle.bpf_spelling.specs.declared.signs.Sign.TheVariants.{Colon}
use Rattle.bpf_spelling.specs.Token.{Tok, Word, Mark}
use Rattle.bpf_text.specs.declared.misfit.Misfit.{Misfit}
use Rattle.bpf_text.specs.declared.reading.LineError.{LineError}
use Rattle.bpf_text.specs.declared.reading.LineError.TheVariants.{BadLine, BadNumber, UnknownName}
use Rattle.bpf_text.specs.declared.source.Body.{Body}
use Rattle.bpf_text.specs.declared.source.Body.TheVariants.{Empty, Code, Named, Refused}
use Rattle.bpf_text.specs.declared.token.Token.{Token}
use Rattle.bpf_text.specs.Line.{Written, name_of}
use Rattle.bpf_text.specs.Symbols.{Table, Load, load_of}
use Rattle.bpf_text.specs.Assembly.{IsBodyOr, IsBodyWith, Source, label_of, unlabelled, cut}
use Rattle.bpf_text.specs.Misfit.{FormGoesOn, LoadGoesOn, GoesOnWith, IsMisfit, IsLineRefusedAt, IsUnfit, StandsAt, with_numbers, zeroed}
use Rattle.bpf_text.specs.Tokens.{IsTokens}
use Rattle.bpf_text.specs.Private.Cutting.{BeginTokens}
use Rattle.bpf_text.specs.Private.Look.{look}
use Rattle.bpf_text.specs.Private.Sources.{body_of, is_bad_number}
use Rattle.bpf_text.proofs.ShortForms.{spelled_short, front_body, body_long, still_refused, line_of_tokens}
use Rattle.bpf_text.proofs.ShortLoads.{load_short}
use Rattle.bpf_text.proofs.Unique.{one_body_with, not_nothing}

-- ---- numbers

bad_number : (names : Option Table) (body : Result (Option Written) LineError) (ts : List Tok) → is_bad_number body ≡ true → IsBodyWith
    names body ts → IsUnfit names ts
bad_number names (Err BadNumber) ts e h = h
bad_number names (Err BadLine) ts e h = cc
bad_number names (Err UnknownName) ts e h = cc
bad_number names (Ok o) ts e h = cc

pub unfit_is : (names : Option Table) (body : Result (Option Written) LineError) (ts : List Tok) (b : Bool) → b ≡ is_bad_number body →
    IsBodyWith names body ts → IsTrue b ↔ IsUnfit names ts
unfit_is names body ts b e h = (λ t. bad_number names body ts (sym e ∙ t) h, λ u. e ∙ ap is_bad_number (one_body_with names ts body (Err BadNumber) h u))

pub map-take : {A B : Type 0} (f : A → B) (n : ℕ) (xs : List A) → map f (take n xs) ≡ take n (map f xs)
map-take f zero xs = refl
map-take f (suc n) [] = refl
map-take f (suc n) (x ∷ xs) = ap (λ ys. f x ∷ ys) (map-take f n xs)

take-whole : {A : Type 0} (n : ℕ) (xs : List A) → length xs ≤ n → take n xs ≡ xs
take-whole zero [] le = refl
take-whole zero (x ∷ xs) le = absurd (omega arith)
take-whole (suc n) [] le = refl
take-whole (suc n) (x ∷ xs) le = ap (λ ys. x ∷ ys) (take-whole n xs (omega arith))

drop-whole : {A : Type 0} (n : ℕ) (xs : List A) → length xs ≤ n → drop n xs ≡ []
drop-whole zero [] le = refl
drop-whole zero (x ∷ xs) le = absurd (omega arith)
drop-whole (suc n) [] le = refl
drop-whole (suc n) (x ∷ xs) le = drop-whole n xs (omega arith)

all_numbers : (n : ℕ) (ts : List Tok) → length ts ≤ n → with_numbers n ts ≡ ts
all_numbers n ts le = ap (λ us. us ++ map zeroed (drop n ts)) (take-whole n ts le) ∙ ap (λ us. ts ++ map zeroed us) (drop-whole n ts le) ∙ append-nil ts

nothing_fits : (names : Option Table) → IsUnfit names [] → ⊥
unfolding load_of
nothing_fits None u = not_nothing [] u.0 u.1 refl
nothing_fits (Some table) u = not_nothing [] u.0 u.1 refl

-- of unfit tokens one is the first with which they are so
pub some_unfit : (names : Option Table) (ts : List Tok) → IsUnfit names ts → ((k : ℕ) → k < length ts → IsUnfit names (with_numbers (k + 1) ts) → ⊥) → ⊥
some_unfit names [] u none = nothing_fits names u
some_unfit names (t ∷ ts) u none = none (length ts) (omega arith) (subst (IsUnfit names) (sym (all_numbers (length ts + 1) (t ∷ ts) (omega arith))) u)

-- what has a number that is out of its range has a form, which is short
unfit_or_short : (table : Table) (ts : List Tok) (o : Option Load) → load_of ts ≡ o → IsBodyOr table o (Err BadNumber) ts → length ts ≤ 40
unfit_or_short table ts (Some load) e u = let short = load_short ts load e in omega arith
unfit_or_short table ts None e u = spelled_short u.0 ts u.1

unfit_short : (names : Option Table) (ts : List Tok) → IsUnfit names ts → length ts ≤ 40
unfit_short None ts u = spelled_short u.0 ts u.1
unfit_short (Some table) ts u = unfit_or_short table ts (load_of ts) refl u

-- ---- tokens at which no form goes on

exit_goes_on : FormGoesOn []
exit_goes_on = (record { insn = insn.Exit; name = None }, Word key.Exit ∷ [], (refl, refl))

pub nothing_goes_on : (names : Option Table) → GoesOnWith names []
nothing_goes_on None = exit_goes_on
nothing_goes_on (Some table) = inl exit_goes_on

form_short : (n : ℕ) (ts : List Tok) → n ≤ length ts → FormGoesOn (take n ts) → n ≤ 40
form_short n ts le g =
    let short = spelled_short g.0 (take n ts ++ g.1) g.2 in
    omega (arith, short, length-append (take n ts) g.1, length-take n ts)

loaded_short : (n : ℕ) (ts : List Tok) → n ≤ length ts → LoadGoesOn (take n ts) → n ≤ 40
loaded_short n ts le g =
    let short = load_short (take n ts ++ g.1) g.0 g.2 in
    omega (arith, short, length-append (take n ts) g.1, length-take n ts)

pub goes_on_short : (names : Option Table) (n : ℕ) (ts : List Tok) → n ≤ length ts → GoesOnWith names (take n ts) → n ≤ 40
goes_on_short None n ts le g = form_short n ts le g
goes_on_short (Some table) n ts le (inl g) = form_short n ts le g
goes_on_short (Some table) n ts le (inr g) = loaded_short n ts le g

-- ---- the label

cut_within : (name : Option (List ℕ)) (us ts : List Tok) → length us ≤ length ts → length (cut name us ts) ≤ length ts
cut_within (Some name) us ts le = le
cut_within None us ts le = omega arith

pub unlabelled_within : (ts : List Tok) → length (unlabelled ts) ≤ length ts
unfolding unlabelled
unlabelled_within (t ∷ Mark Colon ∷ ts) = cut_within (name_of t) ts (t ∷ Mark Colon ∷ ts) (omega arith)
unlabelled_within ts = omega arith

-- ---- a line by its first tokens

long_stands : (names : Option Table) (why : LineError) (n : ℕ) (us rest : List Tok) → 41 ≤ length us → IsBodyWith names (Err why) us →
    StandsAt names why n us → StandsAt names why n (us ++ rest)
long_stands names BadNumber n us rest long body stands = absurd (let short = unfit_short names us body in omega arith)
long_stands names UnknownName n us rest long body stands = stands
long_stands names BadLine n us rest long body (goes, inl same) = absurd (let short = goes_on_short names n us (omega arith) goes in omega arith)
long_stands names BadLine n us rest long body (goes, inr (lt, left)) =
    let front : take n (us ++ rest) ≡ take n us = take-append-le n us rest (omega arith) in
    let more : take (n + 1) (us ++ rest) ≡ take (n + 1) us = take-append-le (n + 1) us rest (omega arith) in
    (subst (GoesOnWith names) (sym front) goes, inr (omega (arith, length-append us rest), λ g. left (subst (GoesOnWith names) more g)))

refused_long : (names : Option Table) (line : List ℕ) (ts rest : List Tok) (m : Misfit) (n : ℕ) → IsTokens line (ts ++ rest) → 64 ≤ length
    ts → IsBodyWith names (Err m.why) (unlabelled ts) → StandsAt names m.why n (unlabelled ts) → m.token + length (unlabelled ts) ≡ length
    ts + n → IsLineRefusedAt names line m
refused_long names line [] rest m n cut_up long body stands counted = absurd (omega arith)
refused_long names line (a ∷ []) rest m n cut_up long body stands counted = absurd (omega arith)
refused_long names line (a ∷ b ∷ ts) rest m n cut_up long body stands counted =
    let us = unlabelled (a ∷ b ∷ ts) in
    let le = body_long a b ts in
    let same : unlabelled (a ∷ b ∷ (ts ++ rest)) ≡ us ++ rest = front_body a b ts rest in
    let P : List Tok → Type 0 = λ vs. IsBodyWith names (Err m.why) vs in
    let Q : List Tok → Type 0 = λ vs. StandsAt names m.why n vs in
    record {
      tokens = a ∷ b ∷ (ts ++ rest);
      cut_up = cut_up;
      refused = subst P (sym same) (still_refused names (Err m.why) us rest (omega arith) body);
      behind = n;
      counted = omega (arith, ap length same, length-append us rest, length-append ts rest, counted);
      stands = subst Q (sym same) (long_stands names m.why n us rest (omega arith) body stands);
    }

pub refused_at : (names : Option Table) (line : List ℕ) (ts : List Tok) (m : Misfit) (n : ℕ) → BeginTokens line ts → IsBodyWith names
    (Err m.why) (unlabelled ts) → StandsAt names m.why n (unlabelled ts) → m.token + length (unlabelled ts) ≡ length ts + n →
    IsLineRefusedAt names line m
refused_at names line ts m n (rest, cut_up, inl none) body stands counted = record {
  tokens = ts;
  cut_up = subst (λ (us : List Tok). IsTokens line us) (ap (λ (r : List Tok). ts ++ r) none ∙ append-nil ts) cut_up;
  refused = body;
  behind = n;
  counted = counted;
  stands = stands;
}
refused_at names line ts m n (rest, cut_up, inr long) body stands counted = refused_long names line ts rest m n cut_up long body stands counted

not_refused : (body : Body) → ((e : LineError) → body ≡ Refused e → ⊥) → OnErr (body_of body) ⊥
not_refused Empty none = tt
not_refused (Code i) none = tt
not_refused (Named i name) none = tt
not_refused (Refused e) none = none e refl

pub not_misfit : (names : Option Table) (line : List ℕ) (ts : List Tok) (body : Body) → BeginTokens line ts → IsBodyWith names
    (body_of body) (unlabelled ts) → ((e : LineError) → body ≡ Refused e → ⊥) → IsMisfit names line None
not_misfit names line ts body begin is none =
    let s : Source = record { label = label_of ts; body = body_of body } in
    (s, line_of_tokens names line ts s begin refl is, not_refused body none)

-- ---- for the functions

-- what is known of a length
pub seen_within : (tokens seen rest : List Token) (len : ℕ) → seen ≡ tokens → map look rest ≡ unlabelled (map look seen) → len ≡ length
    tokens → length rest ≤ len
seen_within tokens seen rest len same label l = omega (
  arith,
  ap length label,
  unlabelled_within (map look seen),
  length-map rest look,
  length-map seen look,
  ap length same,
  l,
)

pub misfit_found : (names : Option Table) (line : List ℕ) (tokens seen rest : List Token) (why : LineError) (len n : ℕ) → BeginTokens line
    (map look tokens) → seen ≡ tokens → map look rest ≡ unlabelled (map look seen)
    → IsBodyWith names (Err why) (map look rest) → StandsAt names why n (map look rest) → len ≡ length tokens → IsLineRefusedAt names line
    (record { why = why; token = (len - length rest) + n })
misfit_found names line tokens seen rest why len n begin same label body stands l =
    let le = seen_within tokens seen rest len same label l in
    let B : List Token → Type 0 = λ ts. BeginTokens line (map look ts) in
    let P : List Tok → Type 0 = λ us. IsBodyWith names (Err why) us in
    let Q : List Tok → Type 0 = λ us. StandsAt names why n us in
    refused_at names line (map look seen) (record { why = why; token = (len - length rest) + n }) n (subst B (sym same) begin)
    (subst P label body) (subst Q label stands)
    (omega (arith, le, ap length label, length-map rest look, length-map seen look, ap length same, l))

pub none_found : (names : Option Table) (line : List ℕ) (tokens seen rest : List Token) (body : Body) → BeginTokens line (map look tokens) →
    seen ≡ tokens → map look rest ≡ unlabelled (map look seen)
    → IsBodyWith names (body_of body) (map look rest) → ((e : LineError) → body ≡ Refused e → ⊥) → IsMisfit names line None
none_found names line tokens seen rest body begin same label is none =
    let B : List Token → Type 0 = λ ts. BeginTokens line (map look ts) in
    let P : List Tok → Type 0 = λ us. IsBodyWith names (body_of body) us in
    not_misfit names line (map look seen) body (subst B (sym same) begin) (subst P label is) none

pub none_unfit : (names : Option Table) (ts : List Tok) (made seen : List Token) (n : ℕ) (b : Bool) →
    ((k : ℕ) → k < n → IsUnfit names (with_numbers (k + 1) ts) → ⊥) → seen ≡ made → map look made ≡ with_numbers (n + 1) ts
    → b ≡ false → (IsTrue b ↔ IsUnfit names (map look seen)) → (k : ℕ) → k < n + 1 → IsUnfit names (with_numbers (k + 1) ts) → ⊥
none_unfit names ts made seen n b before same with none is k lt u = by_place (eq-or-lt_of_le {n = k} {m = n} (omega arith))
  where
    false_true : false ≡ true → ⊥
    false_true e = cc

    by_place : (k ≡ n) ⊎ (k < n) → ⊥
    by_place (inr less) = before k less u
    by_place (inl here) =
        let same_tokens : map look seen ≡ with_numbers (k + 1) ts = ap (map look) same ∙ with ∙ ap (λ m. with_numbers (m + 1) ts) (sym here) in
        false_true (sym none ∙ is.1 (subst (IsUnfit names) (sym same_tokens) u))

-- of two tests one holds
pub either : (P Q : Type 0) (a b c : Bool) → c ≡ (a || b) → (IsTrue a ↔ P) → (IsTrue b ↔ Q) → IsTrue c ↔ (P ⊎ Q)
either P Q true b c e p q = (λ t. inl (p.0 refl), λ h. e)
either P Q false true c e p q = (λ t. inr (q.0 refl), λ h. e)
either P Q false false c e p q = (λ t. absurd (false_true (sym e ∙ t)), one_of)
  where
    false_true : false ≡ true → ⊥
    false_true h = cc

    one_of : P ⊎ Q → IsTrue c
    one_of (inl h) = e ∙ p.1 h
    one_of (inr h) = e ∙ q.1 h

pub goes_on_of : (names : Option Table) (b : Bool) (n : ℕ) (tokens : List Token) → (IsTrue b ↔ GoesOnWith names (map look (take n tokens)))
    → IsTrue b ↔ GoesOnWith names (take n (map look tokens))
goes_on_of names b n tokens h = let P : List Tok → Type 0 = λ ts. IsTrue b ↔ GoesOnWith names ts in subst P (map-take look n tokens) h
