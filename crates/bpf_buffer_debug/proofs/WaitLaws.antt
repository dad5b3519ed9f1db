-- The lines of stores that wait.
use Rattle.std.proofs.Common.{◌≡◌, ◌∙◌, ℕ, ◌+◌, ◌<◌, ◌≤◌, List, [], ◌∷◌, ◌++◌, append_assoc, append-nil, length, map, take, get_or, refl}
use Rattle.std.proofs.Common.{sym, ap, arith, Some, None}
use Rattle.std.specs.Prelude.{slice_get}
use Rattle.std.proofs.lemmas.List.{map-append, take_more, take_all}
use Rattle.bpf_shared.specs.declared.events.Event.{Event}
use Rattle.bpf_buffering.specs.declared.waiting.Stored.{Stored}
use Rattle.bpf_buffering.specs.Waiting.{event_of}
use Rattle.bpf_buffer_debug.specs.Waiting.{buffer_text, flush_line, flush_text, nothing_line, waiting_line, waiting_lines}

lines_both : (names : List (List ℕ)) (c : ℕ) (es fs : List Event) → waiting_lines names c (es ++ fs) ≡ waiting_lines names c es ++ waiting_lines names c fs
lines_both names c [] fs = refl
lines_both names c (e ∷ es) fs =
    ap (λ (s : List ℕ). waiting_line names c e ++ s) (lines_both names c es fs) ∙ sym
    (append_assoc (waiting_line names c e) (waiting_lines names c es) (waiting_lines names c fs))

-- one store more
pub line_more : (names : List (List ℕ)) (c : ℕ) (stores : List Stored) (i : ℕ) (d : Stored) (text line last : List ℕ) → i < length stores →
    text ≡ waiting_lines names c (map event_of (take i stores)) → line ≡ waiting_line names c (event_of (get_or stores i d)) → last ≡ text ++ line
    → last ≡ waiting_lines names c (map event_of (take (i + 1) stores))
line_more names c stores i d text line last inside before here put =
    let e = event_of (get_or stores i d) in
    let all : map event_of (take (i + 1) stores) ≡ map event_of (take i stores) ++ e ∷ [] =
    ap (map event_of) (take_more stores i d inside) ∙ map-append event_of (take i stores) (get_or stores i d ∷ []) in
    let one : waiting_lines names c (e ∷ []) ≡ waiting_line names c e = append-nil (waiting_line names c e) in
    put ∙ ap (λ (s : List ℕ). s ++ line) before ∙ ap (λ (s : List ℕ). waiting_lines names c (map event_of (take i stores)) ++ s) (here ∙ sym one)
    ∙ sym (lines_both names c (map event_of (take i stores)) (e ∷ [])) ∙ ap (waiting_lines names c) (sym all)

pub all_lines : (names : List (List ℕ)) (c : ℕ) (stores : List Stored) (i : ℕ) (text : List ℕ) → length stores ≤ i → text ≡ waiting_lines names c
    (map event_of (take i stores)) → text ≡ waiting_lines names c (map event_of stores)
all_lines names c stores i text past is = is ∙ ap (λ (ss : List Stored). waiting_lines names c (map event_of ss)) (take_all i stores past)

pub some_wait : (names : List (List ℕ)) (c : ℕ) (stores : List Stored) → 0 < length stores → waiting_lines names c (map event_of stores) ≡
    buffer_text names c (map event_of stores)
some_wait names c [] some = absurd (omega arith)
some_wait names c (e ∷ es) some = refl

pub first_flushes : (names : List (List ℕ)) (c : ℕ) (stores : List Stored) (e : Stored) → slice_get stores 0 ≡ Some e
    → flush_line names c (event_of e) ≡ flush_text names c (map event_of stores)
first_flushes names c [] e is = let no : None ≡ Some e = is in cc
first_flushes names c (d ∷ es) e is = let two : Some d ≡ Some e = is in let same : d ≡ e = cc in ap (λ (f : Stored). flush_line names c (event_of f)) (sym same)

pub none_flushes : (names : List (List ℕ)) (c : ℕ) (stores : List Stored) → slice_get stores 0 ≡ None → nothing_line c ≡ flush_text names c
    (map event_of stores)
none_flushes names c [] is = refl
none_flushes names c (d ∷ es) is = let no : Some d ≡ None = is in cc
