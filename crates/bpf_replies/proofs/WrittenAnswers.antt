-- What is written of answers, one after the other.
use Rattle.std.proofs.Common.{◌≡◌, ℕ, ◌+◌, ◌<◌, List, [], ◌∷◌, ◌++◌, Option, Some, None, length, get_or, take, drop, map, Result, Ok, Err}
use Rattle.std.proofs.Common.{inl, inr, ◌⊎◌, refl, sym, ap, subst, ◌∙◌, append_assoc, append-nil, String, Global}
use Rattle.std.specs.Prelude.{true, false, is_err, string_bytes, IfOk, OnErr, OnOk}
use Rattle.std.specs.Io.KnownBytes.{Appends}
use Rattle.std.proofs.lemmas.List.{drop_more, take-append-drop}
use Rattle.std.proofs.Math.Seq.{take-append_seam}
use Rattle.bpf_debug.specs.declared.error.DebugError.{DebugError}
use Rattle.bpf_debug.specs.Script.{answer_of}
use Rattle.bpf_replies.specs.Answer.{all_of, first_shown, other_lines, shown_text}
use Rattle.bpf_replies.proofs.KnownBytes.{appended}
use denote.Ref.{Bor}

abbrev Replies : Type 0
Replies = List (Result (String Global) DebugError)

-- ---- texts in a row

-- so much is written of a text, and this is left of it
pub record Wrote (old now : Option (List ℕ)) (all left : List ℕ) : Type 0 where
  pub before : List ℕ
  pub put : Appends old now before
  pub whole : all ≡ before ++ left

none_put : (old : Option (List ℕ)) → Appends old old []
none_put None = tt
none_put (Some text) = sym (append-nil text)

pub wrote_none : (old : Option (List ℕ)) (all : List ℕ) → Wrote old old all all
wrote_none old all = record { before = []; put = none_put old; whole = refl }

-- and where no more is left, all is written
all_put : (old now : Option (List ℕ)) (all : List ℕ) → Wrote old now all [] → Appends old now all
all_put old now all w = subst (Appends old now) (sym (w.whole ∙ append-nil w.before)) w.put

pub wrote_more : (old mid new : Option (List ℕ)) (all left part more : List ℕ) → Wrote old mid all left → left ≡ part ++ more → Appends mid
    new part → Wrote old new all more
wrote_more old mid new all left part more w is put = record {
  before = w.before ++ part;
  put = appended old mid new w.before part w.put put;
  whole = w.whole ∙ ap (λ (t : List ℕ). w.before ++ t) is ∙ sym (append_assoc w.before part more);
}

-- some of the next part after what is written is a beginning of all
pub wrote_some : (old mid new : Option (List ℕ)) (all left part more : List ℕ) → Wrote old mid all left → left ≡ part ++ more
    → ((k : ℕ) × Appends mid new (take k part)) → (n : ℕ) × Appends old new (take n all)
wrote_some old mid new all left part more w is (k, put) =
    let begun = w.before ++ take k part in
    let rest = drop k part ++ more in
    let parts : left ≡ take k part ++ rest = is ∙ ap (λ (t : List ℕ). t ++ more) (sym (take-append-drop k part)) ∙ append_assoc
    (take k part) (drop k part) more in
    let whole : all ≡ begun ++ rest = w.whole ∙ ap (λ (t : List ℕ). w.before ++ t) parts ∙ sym (append_assoc w.before (take k part) rest) in
    let same : begun ≡ take (length begun) all = sym (ap (take (length begun)) whole ∙ take-append_seam begun rest) in
    (length begun, subst (Appends old new) same (appended old mid new w.before (take k part) w.put put))

-- ---- the parts of texts, and of answers

abbrev pub texts_left : List (Bor (List ℕ)) → ℕ → List ℕ
texts_left texts i = all_of (map (λ (t : Bor (List ℕ)). t.now) (drop i texts))

pub next_text : (texts : List (Bor (List ℕ))) (i : ℕ) (d : Bor (List ℕ)) → i < length texts → texts_left texts i ≡ (get_or texts i d).now ++
    texts_left texts (i + 1)
next_text texts i d inside = ap (λ (ts : List (Bor (List ℕ))). all_of (map (λ (t : Bor (List ℕ)). t.now) ts)) (drop_more texts i d inside)

abbrev pub answers_left : List (List ℕ) → Replies → ℕ → List ℕ
answers_left lines answers i = shown_text lines (map answer_of (drop i answers))

pub next_answer : (lines : List (List ℕ)) (answers : Replies) (i : ℕ) (a : Result (String Global) DebugError) → i < length answers → a ≡ get_or answers i a
    → answers_left lines answers i ≡ first_shown lines (answer_of a) ++ answers_left (other_lines lines) answers (i + 1)
next_answer lines answers i a inside is =
    ap (λ (xs : Replies). shown_text lines (map answer_of xs))
    (drop_more answers i a inside ∙ ap (λ (b : Result (String Global) DebugError). b ∷ drop (i + 1) answers) (sym is))

-- a line that was made, with its status, or a refusal since memory ran out
pub printed_line : {E : Type 0} {S : Type 0} (line : Result (String Global) E) (text : List ℕ) (given meant : S) (P : List ℕ → S → Type 0)
    (Q : Type 0) → given ≡ meant
    → IfOk line (λ t. string_bytes t ≡ text) → IfOk line (λ t. P (string_bytes t) given) → OnErr line Q → P text meant ⊎ Q
printed_line (Ok t) text given meant P Q same is p q = inl (subst (P text) same (subst (λ (bs : List ℕ). P bs given) is p))
printed_line (Err e) text given meant P Q same is p q = inr q

-- what a result that failed, or did not, ensures
pub on_err : {E : Type 0} {U : Type 0} (r : Result U E) (P : Type 0) → true ≡ is_err r → OnErr r P → P
on_err (Ok u) P e h = cc
on_err (Err d) P e h = h

pub for_err : {E : Type 0} {U : Type 0} (r : Result U E) (P : Type 0) → P → OnErr r P
for_err (Ok u) P h = tt
for_err (Err d) P h = h

pub on_ok : {E : Type 0} {U : Type 0} (r : Result U E) (P : Type 0) → false ≡ is_err r → OnOk r P → P
on_ok (Ok u) P e h = h
on_ok (Err d) P e h = cc
