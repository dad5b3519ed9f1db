-- What is printed of a schedule is read back.
use Rattle.std.proofs.Common.{◌≡◌, ℕ, zero, suc, ◌+◌, ◌%◌, ◌^◌, ◌<◌, ◌≤◌, Bool, true, false, ◌==◌, ◌&&◌, not, List, [], ◌∷◌, ◌++◌, length}
use Rattle.std.proofs.Common.{map, Some, refl, sym, ap, subst, ◌∙◌, arith, rules, tests}
use Rattle.std.specs.Prelude.{All, codes, filter, nat_eq, nat_lt, slice_index_or}
use Rattle.std.specs.Fmt.{decimal}
use Rattle.std.specs.List.{before_first, after_first, list_all, prefix_len, slice_split, starts_with}
use Rattle.std.specs.Str.Parse.{AllDigits}
use Rattle.std.proofs.lemmas.Fmt.{decimal_by_steps, decimal_is_IsNumeral}
use Rattle.std.proofs.lemmas.Bool.{lt-ltb}
use Rattle.std.proofs.lemmas.List.{append_assoc, append-nil, length-append}
use Rattle.std.proofs.lemmas.List.Sums.{take_while-cons}
use Rattle.std.proofs.lemmas.List.Splits.{slice_split_at, slice_split_none, slice_split-cons_yes}
use Rattle.bpf_lines.specs.Lines.{fields_of, is_blank, is_field, uncommented}
use Rattle.bpf_lines.specs.Words.{is_digit_of, written_number}
use Rattle.bpf_schedule.specs.Spelling.{IsRun, PrintedIsReadBack, SpellRuns, count_in, is_star, number_below, run_in, run_text, runs_text}

-- ---- digits
abbrev pub IsDigit : ℕ → Type 0
IsDigit b = (48 ≤ b) × (b ≤ 57)

abbrev pub AreDigits : List ℕ → Type 0
AreDigits [] = Unit {0}
AreDigits (b ∷ bs) = IsDigit b × AreDigits bs

one_behind : (ds : List ℕ) (b : ℕ) → AreDigits ds → IsDigit b → AreDigits (ds ++ b ∷ [])
one_behind [] b all is = (is, tt)
one_behind (d ∷ ds) b all is = (all.0, one_behind ds b all.1 is)

pub decimal_digits : (n : ℕ) → n < 2 ^ 64 → AreDigits (decimal n)
decimal_digits = decimal_by_steps (λ n ds. AreDigits ds)
    (λ n small. ((omega arith, omega arith), tt))
    (λ n ds big all. one_behind ds (48 + n % 10) all (omega arith, omega arith))

no_and : (x : Bool) → x && false ≡ false
no_and true = refl
no_and false = refl

pub not_nat : (a b : ℕ) → (a ≡ b → ⊥) → nat_eq a b ≡ false
not_nat a b ne = search (rules, tests)

-- digits don't begin with `0x`
not_hex : (ds : List ℕ) → AreDigits ds → starts_with nat_eq ds (codes "0x") ≡ false
not_hex [] all = refl
not_hex (b ∷ []) all = search (rules, tests)
not_hex (b ∷ c ∷ ds) all = rw (not_nat 120 c (λ e. omega arith)) (no_and (nat_eq 48 b))

pass : (ds : List ℕ) → AllDigits 10 ds → list_all (is_digit_of 10) ds ≡ true
pass [] all = refl
pass (d ∷ ds) all = search (rules, tests, pass ds all.1)

written_decimal : (n : ℕ) → n < 2 ^ 64 → written_number (decimal n) ≡ Some n
unfolding written_number
written_decimal n small =
    let is = decimal_is_IsNumeral n small in
    let no : starts_with nat_eq (decimal n) (codes "0x") ≡ false = not_hex (decimal n) (decimal_digits n small) in
    let all : list_all (is_digit_of 10) (decimal n) ≡ true = pass (decimal n) is.0.1 in
    let some : nat_lt 0 (length (decimal n)) ≡ true = search (rules, tests) in
    rw (no, some, all, is.1) refl

-- ---- one run
abbrev word : ℕ × ℕ → List ℕ
word run = decimal run.0 ++ 42 ∷ decimal run.1

no_star : (b : ℕ) → IsDigit b → is_star b ≡ false
no_star b is = not_nat b 42 (λ e. omega arith)

cut_before : (ds ys : List ℕ) → AreDigits ds → before_first is_star (ds ++ 42 ∷ ys) ≡ ds
cut_before [] ys all = refl
cut_before (d ∷ ds) ys all =
    let k = prefix_len (λ b. not (is_star b)) (ds ++ 42 ∷ ys) in
    let one : 1 + k ≡ suc k = omega arith in
    rw (no_star d all.0, one) (ap (λ xs. d ∷ xs) (cut_before ds ys all.1))

cut_behind : (ds ys : List ℕ) → AreDigits ds → after_first is_star (ds ++ 42 ∷ ys) ≡ ys
cut_behind [] ys all = refl
cut_behind (d ∷ ds) ys all =
    let k = prefix_len (λ b. not (is_star b)) (ds ++ 42 ∷ ys) in
    let one : (1 + k) + 1 ≡ suc (k + 1) = omega arith in
    rw (no_star d all.0, one) (cut_behind ds ys all.1)

pub below : (limit n : ℕ) → limit ≤ 2 ^ 64 → n < limit → number_below limit (decimal n) ≡ Some n
below limit n few small =
    let is : nat_lt n limit ≡ true = search (rules, tests) in
    rw (written_decimal n (omega arith), is) refl

-- what follows a star is how often
pub counted : (ds : List ℕ) (n : ℕ) → before_first is_star (ds ++ 42 ∷ decimal n) ≡ ds → after_first is_star (ds ++ 42 ∷ decimal n) ≡ decimal n →
    n < 2 ^ 64 → count_in (ds ++ 42 ∷ decimal n) ≡ Some n
counted ds n before after small =
    let size = length-append ds (42 ∷ decimal n) in
    let less : nat_lt (length ds) (length (ds ++ 42 ∷ decimal n)) ≡ true = lt-ltb (length ds) (length (ds ++ 42 ∷ decimal n)) (omega (arith, size)) in
    rw (before, less, after) (below (2 ^ 64) n (omega arith) small)

run_read : (run : ℕ × ℕ) → IsRun run → run_in (word run) ≡ Some run
run_read run is =
    let digits = decimal_digits run.0 (omega (arith, is.0)) in
    let before = cut_before (decimal run.0) (decimal run.1) digits in
    let often = counted (decimal run.0) run.1 before (cut_behind (decimal run.0) (decimal run.1) digits) is.1 in
    rw (often, before, below (2 ^ 8) run.0 (omega arith) is.0) refl

-- ---- the text, from its front
abbrev spelled : List (ℕ × ℕ) → List ℕ
spelled [] = []
spelled (r ∷ rs) = 32 ∷ (word r ++ spelled rs)

more : (n : ℕ) (r : ℕ × ℕ) (rs : List (ℕ × ℕ)) → runs_text (suc n) (r ∷ rs) ≡ run_text r ++ runs_text n rs
more zero r rs = sym (append-nil (run_text r))
more (suc n) r rs = ap (λ x. x ++ run_text (slice_index_or rs n (0, 0))) (more n r rs) ∙ append_assoc (run_text r) (runs_text n rs)
    (run_text (slice_index_or rs n (0, 0)))

shape : (r : ℕ × ℕ) (xs : List ℕ) → run_text r ++ xs ≡ 32 ∷ (word r ++ xs)
shape r xs = simp append_assoc

text_is : (runs : List (ℕ × ℕ)) → runs_text (length runs) runs ≡ spelled runs
text_is [] = refl
text_is (r ∷ rs) = more (length rs) r rs ∙ ap (λ x. run_text r ++ x) (text_is rs) ∙ shape r (spelled rs)

-- ---- its words
abbrev pub IsWordByte : ℕ → Type 0
IsWordByte b = (is_blank b ≡ false) × (b == 59 ≡ false)

abbrev pub AreWordBytes : List ℕ → Type 0
AreWordBytes [] = Unit {0}
AreWordBytes (b ∷ bs) = IsWordByte b × AreWordBytes bs

pub digit_in_word : (b : ℕ) → IsDigit b → IsWordByte b
digit_in_word b is =
    let a = not_nat b 32 (λ e. omega arith) in
    let t = not_nat b 9 (λ e. omega arith) in
    let r = not_nat b 13 (λ e. omega arith) in
    (rw (a, t, r) refl, not_nat b 59 (λ e. omega arith))

pub digits_in_word : (ds bs : List ℕ) → AreDigits ds → AreWordBytes bs → AreWordBytes (ds ++ bs)
digits_in_word [] bs all rest = rest
digits_in_word (d ∷ ds) bs all rest = (digit_in_word d all.0, digits_in_word ds bs all.1 rest)

word_bytes : (run : ℕ × ℕ) → IsRun run → AreWordBytes (word run)
word_bytes run is =
    let turns = subst AreWordBytes (append-nil (decimal run.1)) (digits_in_word (decimal run.1) [] (decimal_digits run.1 (omega (arith, is.1))) tt) in
    digits_in_word (decimal run.0) (42 ∷ decimal run.1) (decimal_digits run.0 (omega (arith, is.0))) ((refl, refl), turns)

pub not_blank : (bs : List ℕ) → AreWordBytes bs → All (λ b. is_blank b ≡ false) bs
not_blank [] all k d inside = absurd (omega arith)
not_blank (b ∷ bs) all zero d inside = all.0.0
not_blank (b ∷ bs) all (suc k) d inside = not_blank bs all.1 k d (omega arith)

abbrev AreRuns : List (ℕ × ℕ) → Type 0
AreRuns [] = Unit {0}
AreRuns (r ∷ rs) = IsRun r × AreRuns rs

are_runs : (runs : List (ℕ × ℕ)) → All IsRun runs → AreRuns runs
are_runs [] all = tt
are_runs (r ∷ rs) all = (all 0 r (omega arith), are_runs rs (λ k d inside. all (suc k) d (omega arith)))

-- a list without `;` has no comment
abbrev pub HasNoMark : List ℕ → Type 0
HasNoMark [] = Unit {0}
HasNoMark (b ∷ bs) = (b == 59 ≡ false) × HasNoMark bs

pub unmarked : (bs xs : List ℕ) → AreWordBytes bs → HasNoMark xs → HasNoMark (bs ++ xs)
unmarked [] xs all rest = rest
unmarked (b ∷ bs) xs all rest = (all.0.1, unmarked bs xs all.1 rest)

spelled_unmarked : (runs : List (ℕ × ℕ)) → AreRuns runs → HasNoMark (spelled runs)
spelled_unmarked [] all = tt
spelled_unmarked (r ∷ rs) all = (refl, unmarked (word r) (spelled rs) (word_bytes r all.0) (spelled_unmarked rs all.1))

pub uncut : (bs : List ℕ) → HasNoMark bs → uncommented bs ≡ bs
uncut [] all = refl
uncut (b ∷ bs) all = take_while-cons (λ x. not (x == 59)) b bs ∙ (rw all.0 (ap (λ xs. b ∷ xs) (uncut bs all.1)))

-- what is between the blanks
parts : (r : ℕ × ℕ) (rs : List (ℕ × ℕ)) → IsRun r → AreRuns rs → slice_split is_blank (word r ++ spelled rs) ≡ word r ∷ map word rs
parts r [] is all = ap (slice_split is_blank) (append-nil (word r)) ∙ slice_split_none is_blank (word r) (not_blank (word r) (word_bytes r is))
parts r (s ∷ rs) is all =
    slice_split_at is_blank (word r) 32 (word s ++ spelled rs) (not_blank (word r) (word_bytes r is)) refl
    ∙ ap (λ x. word r ∷ x) (parts s rs all.0 all.1)

is_part : (r : ℕ × ℕ) → is_field (word r) ≡ true
is_part r = let e = length-append (decimal r.0) (42 ∷ decimal r.1) in search (rules, tests, e)

kept : (runs : List (ℕ × ℕ)) → filter is_field (map word runs) ≡ map word runs
kept [] = refl
kept (r ∷ rs) = rw (is_part r) (ap (λ xs. word r ∷ xs) (kept rs))

words_of : (runs : List (ℕ × ℕ)) → AreRuns runs → filter is_field (slice_split is_blank (spelled runs)) ≡ map word runs
words_of [] all = refl
words_of (r ∷ rs) all =
    ap (filter is_field) (slice_split-cons_yes is_blank 32 (word r ++ spelled rs) refl)
    ∙ ap (filter is_field) (parts r rs all.0 all.1) ∙ kept (r ∷ rs)

fields : (runs : List (ℕ × ℕ)) → AreRuns runs → fields_of (runs_text (length runs) runs) ≡ map word runs
fields runs all =
    ap fields_of (text_is runs)
    ∙ ap (λ text. filter is_field (slice_split is_blank text)) (uncut (spelled runs) (spelled_unmarked runs all)) ∙ words_of runs all

read : (runs : List (ℕ × ℕ)) → AreRuns runs → SpellRuns (map word runs) runs
read [] all = refl
read (r ∷ rs) all = let one = run_read r all.0 in let rest = read rs all.1 in cc

pub printed_read_back : PrintedIsReadBack
printed_read_back runs all =
    let is = are_runs runs all in
    subst (λ (ws : List (List ℕ)). SpellRuns ws runs) (sym (fields runs is)) (read runs is)
