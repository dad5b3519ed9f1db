-- Blanks and a comment after a line leave its tokens as they are.
use Rattle.std.proofs.Common.{◌≡◌, ℕ, suc, ◌+◌, ◌<◌, ◌≤◌, Bool, true, false, cond, ◌==◌, ◌&&◌, ◌||◌, not, nat_eq, List, [], ◌∷◌, ◌++◌}
use Rattle.std.proofs.Common.{length, take, take_while, drop, Option, Some, None, refl, sym, ap, subst, ◌∙◌, arith}
use Rattle.std.specs.Prelude.{filter, nat_lt}
use Rattle.std.specs.List.{list_all, prefix_len, starts_with}
use Rattle.std.proofs.lemmas.Bool.{and_parts, eqb-true}
use Rattle.std.proofs.lemmas.Bool.Decides.{nat_tests}
use Rattle.std.proofs.lemmas.List.{drop-append-le, length-take, take-append-le}
use Rattle.std.proofs.lemmas.List.Folds.{length-prefix_len}
use Rattle.bpf_spelling.specs.declared.signs.Sign.{Sign}
use Rattle.bpf_spelling.specs.declared.signs.Sign.TheVariants as sign
use Rattle.bpf_spelling.specs.declared.signs.TheConstants.{SIGNS}
use Rattle.bpf_text.specs.Laws.{CommentsSayNothing}
use Rattle.bpf_spelling.specs.Signs.{longest, sign_at, sign_text}
use Rattle.bpf_spelling.specs.Token.{Tok}
use Rattle.bpf_lines.specs.Lines.{is_blank}
use Rattle.bpf_text.specs.Tokens.{after_blanks, word_len, sign_tok, sign_len, front_tok, front_len, IsEnd, AreTokens}
use Rattle.bpf_lines.specs.Words.{is_word_byte}
use Rattle.bpf_text.specs.Words.{word_tok}
use Rattle.bpf_text.proofs.Scanning.{length-sign_at}

-- ---- blanks

pub blank_first : (b : ℕ) (bs : List ℕ) → is_blank b ≡ true → after_blanks (b ∷ bs) ≡ after_blanks bs
blank_first b bs e =
    let one : 1 + prefix_len is_blank bs ≡ suc (prefix_len is_blank bs) = omega arith in
    let len : length (take_while is_blank (b ∷ bs)) ≡ suc (length (take_while is_blank bs)) = rw e (ap (λ k. length (take k (b ∷ bs))) one) in
    ap (λ k. drop k (b ∷ bs)) len

pub no_blank : (b : ℕ) (bs : List ℕ) → is_blank b ≡ false → after_blanks (b ∷ bs) ≡ b ∷ bs
no_blank b bs e = rw e refl

-- ---- what no token has

-- a blank, or what a comment begins with
abbrev is_gap : ℕ → Bool
is_gap b = is_blank b || (b == 59)

-- a text that goes on no token
abbrev IsGap : List ℕ → Type 0
IsGap [] = Unit {0}
IsGap (b ∷ bs) = is_gap b ≡ true

gap : (behind : List ℕ) → IsEnd (after_blanks behind) → IsGap behind
gap [] h = tt
gap (b ∷ bs) h = by_test (is_blank b) refl
  where
    by_test : (t : Bool) → is_blank b ≡ t → is_gap b ≡ true
    by_test true e = rw e refl
    by_test false e =
        let comment : b ≡ 59 = subst IsEnd (no_blank b bs e) h in
        rw comment refl

no_word : (b : ℕ) → is_gap b ≡ true → is_word_byte b ≡ false
no_word b e = by_test (is_word_byte b) refl
  where
    by_test : (t : Bool) → is_word_byte b ≡ t → t ≡ false
    by_test false h = refl
    by_test true h = grind (arith, nat_tests)

-- ---- words

word_bytes : (text behind : List ℕ) → IsGap behind → prefix_len is_word_byte (text ++ behind) ≡ prefix_len is_word_byte text
word_bytes [] [] h = refl
word_bytes [] (b ∷ bs) h = rw (no_word b h) refl
word_bytes (a ∷ text) behind h = by_test (is_word_byte a) refl (word_bytes text behind h)
  where
    by_test : (t : Bool) → is_word_byte a ≡ t → prefix_len is_word_byte (text ++ behind) ≡ prefix_len is_word_byte text
        → prefix_len is_word_byte (a ∷ (text ++ behind)) ≡ prefix_len is_word_byte (a ∷ text)
    by_test true e more = rw (e, more) refl
    by_test false e more = rw e refl

-- ---- signs

abbrev has_no_gap : List ℕ → Bool
has_no_gap bytes = list_all (λ b. not (is_gap b)) bytes

sign_apart : (s : Sign) → has_no_gap (sign_text s) ≡ true
sign_apart sign.ShlAssign = refl
sign_apart s = refl

other : (c b : ℕ) → not (is_gap c) ≡ true → is_gap b ≡ true → c == b ≡ false
other c b e h = by_test (c == b) refl
  where
    by_test : (t : Bool) → c == b ≡ t → t ≡ false
    by_test false f = refl
    by_test true f =
        let same : is_gap c ≡ true = ap is_gap (eqb-true c b f) ∙ h in
        let none : not true ≡ true = ap not (sym same) ∙ e in
        cc

begins : (text behind sign : List ℕ) → IsGap behind → has_no_gap sign ≡ true → starts_with nat_eq (text ++ behind) sign ≡ starts_with nat_eq text sign
begins text behind [] h e = refl
begins [] [] (c ∷ sign) h e = refl
begins [] (b ∷ behind) (c ∷ sign) h e =
    let p = and_parts (not (is_gap c)) (has_no_gap sign) e in
    rw (other c b p.0 h) refl
begins (a ∷ text) behind (c ∷ sign) h e =
    let p = and_parts (not (is_gap c)) (has_no_gap sign) e in
    ap (λ t. (c == a) && t) (begins text behind sign h p.1)

sign_behind : (text behind : List ℕ) → IsGap behind → sign_at (text ++ behind) ≡ sign_at text
unfolding sign_at
sign_behind text behind h = λ t. longest (filter (λ s. (begins text behind (sign_text s) h (sign_apart s)) t) SIGNS)

-- ---- one token

words_behind : (text behind : List ℕ) → IsGap behind → word_len (text ++ behind) ≡ word_len text
words_behind text behind h = length-prefix_len is_word_byte (text ++ behind) ∙ word_bytes text behind h ∙ sym (length-prefix_len is_word_byte text)

word_within : (text : List ℕ) → word_len text ≤ length text
word_within text = omega (arith, length-take (prefix_len is_word_byte text) text)

word_first : (text behind : List ℕ) → IsGap behind → take (word_len (text ++ behind)) (text ++ behind) ≡ take (word_len text) text
word_first text behind h = ap (λ n. take n (text ++ behind)) (words_behind text behind h) ∙ take-append-le (word_len text) text behind (word_within text)

sign_within : (text : List ℕ) (o : Option Sign) → sign_at text ≡ o → 0 < length text → sign_len o ≤ length text
sign_within text (Some s) e some = length-sign_at text s e
sign_within text None e some = some

tok_of : ℕ → List ℕ → Option Sign → Tok
tok_of n word s = cond (nat_lt 0 n) (word_tok word) (sign_tok s)

len_of : ℕ → Option Sign → ℕ
len_of n s = cond (nat_lt 0 n) n (sign_len s)

front_tok_behind : (text behind : List ℕ) → IsGap behind → front_tok (text ++ behind) ≡ front_tok text
unfolding front_tok tok_of
front_tok_behind text behind h =
    let all = text ++ behind in
    ap (λ n. tok_of n (take (word_len all) all) (sign_at all)) (words_behind text behind h)
    ∙ ap (λ word. tok_of (word_len text) word (sign_at all)) (word_first text behind h)
    ∙ ap (λ s. tok_of (word_len text) (take (word_len text) text) s) (sign_behind text behind h)

front_len_behind : (text behind : List ℕ) → IsGap behind → front_len (text ++ behind) ≡ front_len text
unfolding front_len len_of
front_len_behind text behind h =
    ap (λ n. len_of n (sign_at (text ++ behind))) (words_behind text behind h) ∙ ap (λ s. len_of (word_len text) s) (sign_behind text behind h)

front_within : (text : List ℕ) → 0 < length text → front_len text ≤ length text
unfolding front_len
front_within text some = by_test (nat_lt 0 (word_len text))
  where
    by_test : (t : Bool) → cond t (word_len text) (sign_len (sign_at text)) ≤ length text
    by_test true = word_within text
    by_test false = sign_within text (sign_at text) refl some

-- ---- all tokens

-- a text without the blanks that it begins with, and then another
abbrev joined : List ℕ → List ℕ → List ℕ
joined [] behind = after_blanks behind
joined (b ∷ text) behind = b ∷ (text ++ behind)

blanks_behind : (text behind : List ℕ) → after_blanks (text ++ behind) ≡ joined (after_blanks text) behind
blanks_behind [] behind = refl
blanks_behind (b ∷ text) behind = by_test (is_blank b) refl (blanks_behind text behind)
  where
    by_test : (t : Bool) → is_blank b ≡ t → after_blanks (text ++ behind) ≡ joined (after_blanks text) behind
        → after_blanks (b ∷ (text ++ behind)) ≡ joined (after_blanks (b ∷ text)) behind
    by_test true e more = blank_first b (text ++ behind) e ∙ more ∙ ap (λ bs. joined bs behind) (sym (blank_first b text e))
    by_test false e more = no_blank b (text ++ behind) e ∙ ap (λ bs. joined bs behind) (sym (no_blank b text e))

tokens_behind : (ts : List Tok) (text behind : List ℕ) → IsEnd (after_blanks behind) → AreTokens text ts → AreTokens (joined text behind) ts
tokens_behind [] [] behind h tokens = h
tokens_behind [] (b ∷ text) behind h tokens = tokens
tokens_behind (t ∷ ts) [] behind h tokens = absurd (tokens.0 tt)
tokens_behind (t ∷ ts) (b ∷ text) behind h tokens =
    let clear = gap behind h in
    let left = drop (front_len (b ∷ text)) (b ∷ text) in
    let rest : drop (front_len (b ∷ (text ++ behind))) (b ∷ (text ++ behind)) ≡ left ++ behind =
    ap (λ n. drop n (b ∷ (text ++ behind))) (front_len_behind (b ∷ text) behind clear) ∙ drop-append-le (front_len (b ∷ text)) (b ∷ text)
    behind (front_within (b ∷ text) (omega arith)) in
    let place : after_blanks (drop (front_len (b ∷ (text ++ behind))) (b ∷ (text ++ behind))) ≡ joined (after_blanks left) behind = ap
    after_blanks rest ∙ blanks_behind left behind in
    let P : List ℕ → Type 0 = λ bs. AreTokens bs ts in
    (tokens.0, tokens.1 ∙ sym (front_tok_behind (b ∷ text) behind clear), subst P (sym place) (tokens_behind ts (after_blanks left) behind h tokens.2))

pub comments_say_nothing : CommentsSayNothing
comments_say_nothing line behind s h l =
    let P : List ℕ → Type 0 = λ bs. AreTokens bs l.tokens in
    record {
      tokens = l.tokens;
      cut_up = subst P (sym (blanks_behind line behind))
          (tokens_behind l.tokens (after_blanks line) behind h l.cut_up);
      labelled = l.labelled;
      body = l.body;
    }
