-- What is printed of a schedule of moves is read back.
use Rattle.std.proofs.Common.{◌≡◌, ℕ, zero, suc, ◌+◌, ◌-◌, ◌^◌, ◌<◌, ◌≤◌, Bool, true, false, not, List, [], ◌∷◌, ◌++◌, length, map}
use Rattle.std.proofs.Common.{Option, Some, refl, sym, ap, subst, ◌∙◌, arith, rules, tests}
use Rattle.std.specs.Prelude.{All, codes, filter, nat_lt, slice_index_or, option_map, option_and_then, if◌then◌else◌}
use Rattle.std.specs.Fmt.{decimal}
use Rattle.std.specs.List.{before_first, after_first, prefix_len, slice_split}
use Rattle.std.proofs.lemmas.Bool.{ltb-true, ltb-false}
use Rattle.std.proofs.lemmas.List.{append_assoc, append-nil, length-append}
use Rattle.std.proofs.lemmas.List.Splits.{slice_split_at, slice_split_none, slice_split-cons_yes}
use Rattle.bpf_lines.specs.Lines.{fields_of, is_blank, is_field}
use Rattle.bpf_schedule.specs.Spelling.{is_star, number_below, count_in}
use Rattle.bpf_schedule.specs.Moves.{IsMoves, MovesAreReadBack, SpellMoves, is_mark, marked, mover_in, mover_text, moves_in, moves_text, all_moves_text}
use Rattle.bpf_schedule.proofs.ReadBack.{AreDigits, decimal_digits, not_nat, below, AreWordBytes, digits_in_word}
use Rattle.bpf_schedule.proofs.ReadBack.{not_blank, HasNoMark, unmarked, uncut, counted}

-- ---- bytes of which a test finds none
abbrev HasNone : (ℕ → Bool) → List ℕ → Type 0
HasNone test [] = Unit {0}
HasNone test (b ∷ bs) = (test b ≡ false) × HasNone test bs

no_stars : (ds : List ℕ) → AreDigits ds → HasNone is_star ds
no_stars [] all = tt
no_stars (d ∷ ds) all = (not_nat d 42 (λ e. omega (arith, all.0)), no_stars ds all.1)

no_marks : (ds : List ℕ) → AreDigits ds → HasNone is_mark ds
no_marks [] all = tt
no_marks (d ∷ ds) all = (not_nat d 33 (λ e. omega (arith, all.0)), no_marks ds all.1)

one_more : (ds : List ℕ) → HasNone is_star ds → HasNone is_star (ds ++ 33 ∷ [])
one_more [] none = (refl, tt)
one_more (d ∷ ds) none = (none.0, one_more ds none.1)

cut_before : (ds ys : List ℕ) → HasNone is_star ds → before_first is_star (ds ++ 42 ∷ ys) ≡ ds
cut_before [] ys none = refl
cut_before (d ∷ ds) ys none =
    let k = prefix_len (λ b. not (is_star b)) (ds ++ 42 ∷ ys) in
    let one : 1 + k ≡ suc k = omega arith in
    rw (none.0, one) (ap (λ xs. d ∷ xs) (cut_before ds ys none.1))

cut_behind : (ds ys : List ℕ) → HasNone is_star ds → after_first is_star (ds ++ 42 ∷ ys) ≡ ys
cut_behind [] ys none = refl
cut_behind (d ∷ ds) ys none =
    let k = prefix_len (λ b. not (is_star b)) (ds ++ 42 ∷ ys) in
    let one : (1 + k) + 1 ≡ suc (k + 1) = omega arith in
    rw (none.0, one) (cut_behind ds ys none.1)

cut_mark : (ds ys : List ℕ) → HasNone is_mark ds → before_first is_mark (ds ++ 33 ∷ ys) ≡ ds
cut_mark [] ys none = refl
cut_mark (d ∷ ds) ys none =
    let k = prefix_len (λ b. not (is_mark b)) (ds ++ 33 ∷ ys) in
    let one : 1 + k ≡ suc k = omega arith in
    rw (none.0, one) (ap (λ xs. d ∷ xs) (cut_mark ds ys none.1))

no_mark : (ds : List ℕ) → HasNone is_mark ds → before_first is_mark ds ≡ ds
no_mark [] none = refl
no_mark (d ∷ ds) none =
    let k = prefix_len (λ b. not (is_mark b)) ds in
    let one : 1 + k ≡ suc k = omega arith in
    rw (none.0, one) (ap (λ xs. d ∷ xs) (no_mark ds none.1))

-- ---- which move
read_as : (word cpu : List ℕ) (c n : ℕ) → before_first is_mark word ≡ cpu → number_below 128 cpu ≡ Some c → length word - length cpu ≡ n →
    mover_in word ≡ marked c n
read_as word cpu c n before number rest =
    ap (λ (xs : List ℕ). option_and_then (λ k. marked k (length word - length xs)) (number_below 128 xs)) before
    ∙ ap (λ (o : Option ℕ). option_and_then (λ k. marked k (length word - length cpu)) o) number ∙ ap (marked c) rest

turn_read : (c : ℕ) → c < 128 → mover_in (decimal c) ≡ Some c
turn_read c small =
    let digits = decimal_digits c (omega arith) in
    read_as (decimal c) (decimal c) c 0 (no_mark (decimal c) (no_marks (decimal c) digits)) (below 128 c (omega arith) small) (omega arith)

flush_read : (c : ℕ) → c < 128 → mover_in (decimal c ++ 33 ∷ []) ≡ Some (128 + c)
flush_read c small =
    let digits = decimal_digits c (omega arith) in
    let longer = length-append (decimal c) (33 ∷ []) in
    read_as (decimal c ++ 33 ∷ []) (decimal c) c 1 (cut_mark (decimal c) [] (no_marks (decimal c) digits)) (below 128 c (omega arith) small)
    (omega (arith, longer))

-- what is so of a turn and of a flush
each_mover : (P : ℕ → List ℕ → Type 0) → ((c : ℕ) → c < 128 → P c (decimal c)) → ((c : ℕ) → c < 128 → P (128 + c) (decimal c ++ 33 ∷ [])) →
    (m : ℕ) → m < 2 ^ 8 → P m (mover_text m)
each_mover P turn flush m small = from (nat_lt m 128) refl
  where
    from : (b : Bool) → nat_lt m 128 ≡ b → P m (mover_text m)
    from true is =
        let text : decimal m ≡ mover_text m = ap (λ (b : Bool). if b then decimal m else decimal (m - 128) ++ 33 ∷ []) (sym is) in
        subst (P m) text (turn m (ltb-true m 128 is))
    from false is =
        let text : decimal (m - 128) ++ 33 ∷ [] ≡ mover_text m = ap (λ (b : Bool). if b then decimal m else decimal (m - 128) ++ 33 ∷ []) (sym is) in
        let past : 128 ≤ m = ltb-false m 128 is in
        let back : 128 + (m - 128) ≡ m = omega arith in
        subst (P m) text (subst (λ (n : ℕ). P n (decimal (m - 128) ++ 33 ∷ [])) back (flush (m - 128) (omega arith)))

mover_read : (m : ℕ) → m < 2 ^ 8 → mover_in (mover_text m) ≡ Some m
mover_read = each_mover (λ m text. mover_in text ≡ Some m) turn_read flush_read

mover_stars : (m : ℕ) → m < 2 ^ 8 → HasNone is_star (mover_text m)
mover_stars = each_mover (λ m text. HasNone is_star text) (λ c small. no_stars (decimal c) (decimal_digits c (omega arith)))
    (λ c small. one_more (decimal c) (no_stars (decimal c) (decimal_digits c (omega arith))))

mover_bytes : (m : ℕ) → m < 2 ^ 8 → AreWordBytes (mover_text m)
mover_bytes = each_mover (λ m text. AreWordBytes text)
    (λ c small. subst AreWordBytes (append-nil (decimal c)) (digits_in_word (decimal c) [] (decimal_digits c (omega arith)) tt))
    (λ c small. digits_in_word (decimal c) (33 ∷ []) (decimal_digits c (omega arith)) ((refl, refl), tt))

-- ---- one word
abbrev word : ℕ × ℕ → List ℕ
word run = mover_text run.0 ++ 42 ∷ decimal run.1

word_read : (text : List ℕ) (m n : ℕ) → HasNone is_star text → mover_in text ≡ Some m → n < 2 ^ 64 → moves_in (text ++ 42 ∷ decimal n) ≡ Some (m, n)
word_read text m n none is small =
    let count = count_in (text ++ 42 ∷ decimal n) in
    ap (λ (xs : List ℕ). option_and_then (λ i. option_map (λ j. (i, j)) count) (mover_in xs)) (cut_before text (decimal n) none)
    ∙ ap (λ (o : Option ℕ). option_and_then (λ i. option_map (λ j. (i, j)) count) o) is
    ∙ ap (λ (o : Option ℕ). option_map (λ j. (m, j)) o) (counted text n (cut_before text (decimal n) none) (cut_behind text (decimal n) none) small)

run_read : (run : ℕ × ℕ) → IsMoves run → moves_in (word run) ≡ Some run
run_read run is = word_read (mover_text run.0) run.0 run.1 (mover_stars run.0 is.0) (mover_read run.0 is.0) is.1

joined : (xs ys : List ℕ) → AreWordBytes xs → AreWordBytes ys → AreWordBytes (xs ++ ys)
joined [] ys all rest = rest
joined (x ∷ xs) ys all rest = (all.0, joined xs ys all.1 rest)

word_bytes : (run : ℕ × ℕ) → IsMoves run → AreWordBytes (word run)
word_bytes run is =
    let counts = subst AreWordBytes (append-nil (decimal run.1)) (digits_in_word (decimal run.1) [] (decimal_digits run.1 (omega (arith, is.1))) tt) in
    joined (mover_text run.0) (42 ∷ decimal run.1) (mover_bytes run.0 is.0) ((refl, refl), counts)

-- ---- the text, from its front
abbrev spelled : List (ℕ × ℕ) → List ℕ
spelled [] = []
spelled (r ∷ rs) = 32 ∷ (word r ++ spelled rs)

more : (n : ℕ) (r : ℕ × ℕ) (rs : List (ℕ × ℕ)) → all_moves_text (suc n) (r ∷ rs) ≡ moves_text r ++ all_moves_text n rs
more zero r rs = sym (append-nil (moves_text r))
more (suc n) r rs =
    ap (λ x. x ++ moves_text (slice_index_or rs n (0, 0))) (more n r rs) ∙ append_assoc (moves_text r) (all_moves_text n rs)
    (moves_text (slice_index_or rs n (0, 0)))

shape_of : (text ds xs : List ℕ) → (codes " " ++ text ++ codes "*" ++ ds) ++ xs ≡ 32 ∷ ((text ++ 42 ∷ ds) ++ xs)
shape_of text ds xs = simp append_assoc

text_is : (runs : List (ℕ × ℕ)) → all_moves_text (length runs) runs ≡ spelled runs
text_is [] = refl
text_is (r ∷ rs) = more (length rs) r rs ∙ ap (λ x. moves_text r ++ x) (text_is rs) ∙ shape_of (mover_text r.0) (decimal r.1) (spelled rs)

abbrev AreMoves : List (ℕ × ℕ) → Type 0
AreMoves [] = Unit {0}
AreMoves (r ∷ rs) = IsMoves r × AreMoves rs

are_moves : (runs : List (ℕ × ℕ)) → All IsMoves runs → AreMoves runs
are_moves [] all = tt
are_moves (r ∷ rs) all = (all 0 r (omega arith), are_moves rs (λ k d inside. all (suc k) d (omega arith)))

spelled_unmarked : (runs : List (ℕ × ℕ)) → AreMoves runs → HasNoMark (spelled runs)
spelled_unmarked [] all = tt
spelled_unmarked (r ∷ rs) all = (refl, unmarked (word r) (spelled rs) (word_bytes r all.0) (spelled_unmarked rs all.1))

-- what is between the blanks
parts : (r : ℕ × ℕ) (rs : List (ℕ × ℕ)) → IsMoves r → AreMoves rs → slice_split is_blank (word r ++ spelled rs) ≡ word r ∷ map word rs
parts r [] is all = ap (slice_split is_blank) (append-nil (word r)) ∙ slice_split_none is_blank (word r) (not_blank (word r) (word_bytes r is))
parts r (s ∷ rs) is all =
    slice_split_at is_blank (word r) 32 (word s ++ spelled rs) (not_blank (word r) (word_bytes r is)) refl
    ∙ ap (λ x. word r ∷ x) (parts s rs all.0 all.1)

a_part : (xs ys : List ℕ) → is_field (xs ++ 42 ∷ ys) ≡ true
a_part xs ys = let e = length-append xs (42 ∷ ys) in search (rules, tests, e)

kept : (runs : List (ℕ × ℕ)) → filter is_field (map word runs) ≡ map word runs
kept [] = refl
kept (r ∷ rs) = rw (a_part (mover_text r.0) (decimal r.1)) (ap (λ xs. word r ∷ xs) (kept rs))

words_of : (runs : List (ℕ × ℕ)) → AreMoves runs → filter is_field (slice_split is_blank (spelled runs)) ≡ map word runs
words_of [] all = refl
words_of (r ∷ rs) all =
    ap (filter is_field) (slice_split-cons_yes is_blank 32 (word r ++ spelled rs) refl)
    ∙ ap (filter is_field) (parts r rs all.0 all.1) ∙ kept (r ∷ rs)

fields : (runs : List (ℕ × ℕ)) → AreMoves runs → fields_of (all_moves_text (length runs) runs) ≡ map word runs
fields runs all =
    ap fields_of (text_is runs)
    ∙ ap (λ text. filter is_field (slice_split is_blank text)) (uncut (spelled runs) (spelled_unmarked runs all)) ∙ words_of runs all

read : (runs : List (ℕ × ℕ)) → AreMoves runs → SpellMoves (map word runs) runs
read [] all = refl
read (r ∷ rs) all = let one = run_read r all.0 in let rest = read rs all.1 in cc

pub moves_read_back : MovesAreReadBack
moves_read_back runs all =
    let is = are_moves runs all in
    subst (λ (ws : List (List ℕ)). SpellMoves ws runs) (sym (fields runs is)) (read runs is)
