-- Canonical text has the tokens of its form.
use Rattle.std.proofs.Common.{◌≡◌, ℕ, ◌+◌, ◌-◌, ◌^◌, ◌<◌, ◌≤◌, zero, suc, Bool, true, false, ◌==◌, ◌&&◌, nat_eq, List, [], ◌∷◌, ◌++◌}
use Rattle.std.proofs.Common.{length, take, drop, Some, None, refl, sym, ap, subst, ◌∙◌, arith, add-one}
use Rattle.std.specs.Prelude.{ℤ, pos, negsuc, neg_ℤ, nat_lt, replicate}
use Rattle.std.proofs.Math.Seq.{take-append_seam, drop-append_seam}
use Rattle.std.specs.List.{list_all, prefix_len, starts_with}
use Rattle.std.specs.Char.{digit_value}
use Rattle.std.specs.Str.Parse.{digits_value, AllDigits, IsNumeral}
use Rattle.std.specs.Fmt.{decimal, digits}
use Rattle.std.proofs.lemmas.Fmt.{decimal_is_IsNumeral, digits_is_IsNumeral}
use Rattle.std.proofs.lemmas.Bool.{and_parts, eqb-true, lt-ltb, ltb-true, and_from}
use Rattle.std.proofs.lemmas.Bool.Decides.{nat_tests}
use Rattle.bpf_insn.specs.declared.register.Reg.{Reg}
use Rattle.bpf_insn.specs.declared.register.Reg.TheVariants.{R0}
use Rattle.bpf_insn.specs.declared.operation.sizes.Size.TheVariants as size
use Rattle.bpf_insn.specs.declared.operation.sizes.SignedSize.TheVariants as signed_size
use Rattle.bpf_insn.specs.declared.operation.swaps.ByteSwap.TheVariants as swap
use Rattle.bpf_insn.specs.declared.operation.swaps.SwapWidth.TheVariants as bits
use Rattle.bpf_insn.specs.declared.operation.widths.Width.{Width}
use Rattle.bpf_insn.specs.declared.operation.widths.Width.TheVariants.{Bits32, Bits64}
use Rattle.bpf_spelling.specs.declared.keywords.Keyword.{Keyword}
use Rattle.bpf_spelling.specs.declared.keywords.Keyword.TheVariants as key
use Rattle.bpf_spelling.specs.declared.signs.Sign.{Sign}
use Rattle.bpf_spelling.specs.declared.signs.Sign.TheVariants as sign
use Rattle.bpf_spelling.specs.Names.{register_text, keyword_text, register_of, keyword_of}
use Rattle.bpf_spelling.specs.Signs.{sign_text, sign_at}
use Rattle.bpf_lines.specs.Words.{is_word_byte, begins_with_digit, is_digit_of, written_in, written_number}
use Rattle.bpf_text.specs.Words.{number_or_junk, word_tok}
use Rattle.bpf_spelling.specs.Token.{Tok, Register, Word, Number, Mark}
use Rattle.bpf_spelling.specs.Form.{Item, Is, Blank, Signed, Natural, Hex, Offset, Target, wide_text, item_text, text_of}
use Rattle.bpf_text.specs.Line.{Spells}
use Rattle.bpf_spelling.proofs.LongestSign.{first_is_longest}
use Rattle.bpf_spelling.specs.Private.Letters.{first_sign}
use Rattle.bpf_lines.specs.Private.Cutting.{in_line}
use Rattle.bpf_lines.specs.Lines.{is_blank}
use Rattle.bpf_text.specs.Tokens.{after_blanks, word_len, front_tok, front_len, IsEnd, AreTokens}
use Rattle.bpf_text.proofs.Comments.{blank_first, no_blank}

-- ---- words

-- what can't go on a word
abbrev pub EndsWord : List ℕ → Type 0
EndsWord [] = Unit {0}
EndsWord (b ∷ bs) = is_word_byte b ≡ false

run_len : (w rest : List ℕ) → list_all is_word_byte w ≡ true → EndsWord rest → prefix_len is_word_byte (w ++ rest) ≡ length w
run_len [] [] h e = refl
run_len [] (b ∷ bs) h e = rw e refl
run_len (a ∷ w) rest h e =
    let p = and_parts (is_word_byte a) (list_all is_word_byte w) h in
    let first : is_word_byte a ≡ true = p.0 in
    let more = run_len w rest p.1 e in
    let one : 1 + prefix_len is_word_byte (w ++ rest) ≡ suc (length w) = omega (arith, more) in
    rw first one

word_len-append : (w rest : List ℕ) → list_all is_word_byte w ≡ true → EndsWord rest → word_len (w ++ rest) ≡ length w
word_len-append w rest h e = ap (λ k. length (take k (w ++ rest))) (run_len w rest h e) ∙ ap length (take-append_seam w rest)

positive : (n : ℕ) → 0 < n → nat_lt 0 n ≡ true
positive n h = lt-ltb 0 n h

front_by : (text : List ℕ) (w : List ℕ) (n : ℕ) → word_len text ≡ n → 0 < n → take n text ≡ w → (front_tok text ≡ word_tok w) × (front_len text ≡ n)
unfolding front_tok front_len
front_by text w n e h t = let some = positive n h in rw (e, some, t) (refl, refl)

pub word_front : (w rest : List ℕ) → list_all is_word_byte w ≡ true → 0 < length w → EndsWord rest → (front_tok (w ++ rest) ≡ word_tok w) ×
    (front_len (w ++ rest) ≡ length w)
word_front w rest h some e = front_by (w ++ rest) w (length w) (word_len-append w rest h e) some (take-append_seam w rest)

pub register_tok : (w : Width) (r : Reg) → word_tok (register_text w r) ≡ Register w r
unfolding word_tok register_of
register_tok Bits32 R0 = refl
register_tok Bits64 R0 = refl
register_tok w r = refl

pub keyword_tok : (k : Keyword) → word_tok (keyword_text k) ≡ Word k
unfolding word_tok register_of keyword_of
keyword_tok (key.Unsigned size.Byte) = refl
keyword_tok (key.Extended signed_size.Byte) = refl
keyword_tok (key.Swap swap.ToLittle bits.Bits16) = refl
keyword_tok (key.Swap swap.ToBig bits.Bits16) = refl
keyword_tok (key.Swap swap.Reverse bits.Bits16) = refl
keyword_tok (key.Exchange Bits32) = refl
keyword_tok (key.CompareExchange Bits32) = refl
keyword_tok k = refl

register_bytes : (w : Width) (r : Reg) → (list_all is_word_byte (register_text w r) ≡ true) × (nat_lt 0 (length (register_text w r)) ≡ true)
register_bytes Bits32 R0 = (refl, refl)
register_bytes Bits64 R0 = (refl, refl)
register_bytes w r = (refl, refl)

keyword_bytes : (k : Keyword) → (list_all is_word_byte (keyword_text k) ≡ true) × (nat_lt 0 (length (keyword_text k)) ≡ true)
keyword_bytes (key.Unsigned size.Byte) = (refl, refl)
keyword_bytes (key.Extended signed_size.Byte) = (refl, refl)
keyword_bytes (key.Swap swap.ToLittle bits.Bits16) = (refl, refl)
keyword_bytes (key.Swap swap.ToBig bits.Bits16) = (refl, refl)
keyword_bytes (key.Swap swap.Reverse bits.Bits16) = (refl, refl)
keyword_bytes (key.Exchange Bits32) = (refl, refl)
keyword_bytes (key.CompareExchange Bits32) = (refl, refl)
keyword_bytes k = (refl, refl)

-- ---- signs

abbrev pub EndsSign : List ℕ → Type 0
EndsSign [] = Unit {0}
EndsSign (b ∷ bs) = (61 == b ≡ false) × (60 == b ≡ false) × (62 == b ≡ false)

-- what the tokens are by the first sign
abbrev Begins : Sign → List ℕ → Type 0
Begins s text = first_sign text ≡ Some s

sign_first : (s : Sign) (rest : List ℕ) → EndsSign rest → Begins s (sign_text s ++ rest)
sign_first sign.ShlAssign [] e = refl
sign_first s [] e = refl
sign_first sign.Above (b ∷ bs) e = let x = e.0 in let z = e.2 in rw (x, z) refl
sign_first sign.Below (b ∷ bs) e = let x = e.0 in let y = e.1 in rw (x, y) refl
sign_first sign.Assign (b ∷ bs) e = let x = e.0 in rw x refl
sign_first sign.And (b ∷ bs) e = let x = e.0 in rw x refl
sign_first sign.Plus (b ∷ bs) e = let x = e.0 in rw x refl
sign_first sign.Minus (b ∷ bs) e = let x = e.0 in rw x refl
sign_first sign.Star (b ∷ bs) e = let x = e.0 in rw x refl
sign_first s (b ∷ bs) e = refl

marked : (s : Sign) (text : List ℕ) → word_len text ≡ 0 → sign_at text ≡ Some s → (front_tok text ≡ Mark s) × (front_len text ≡ length (sign_text s))
unfolding front_tok front_len
marked s text e f = rw (e, f) (refl, refl)

sign_no_word : (s : Sign) (rest : List ℕ) → word_len (sign_text s ++ rest) ≡ 0
sign_no_word sign.ShlAssign rest = refl
sign_no_word s rest = refl

pub sign_front : (s : Sign) (rest : List ℕ) → EndsSign rest → (front_tok (sign_text s ++ rest) ≡ Mark s) ×
    (front_len (sign_text s ++ rest) ≡ length (sign_text s))
sign_front s rest e = marked s (sign_text s ++ rest) (sign_no_word s rest) (sym (first_is_longest (sign_text s ++ rest)) ∙ sign_first s rest e)

-- ---- one token

pub token_front : (text rest : List ℕ) (t : Tok) (ts : List Tok) → after_blanks (text ++ rest) ≡ text ++ rest → (IsEnd (text ++ rest) → ⊥) →
    front_tok (text ++ rest) ≡ t → front_len (text ++ rest) ≡ length text → AreTokens (after_blanks rest) ts
    → AreTokens (after_blanks (text ++ rest)) (t ∷ ts)
token_front text rest t ts start some tok len more =
    let P : List ℕ → Type 0 = λ x. AreTokens x (t ∷ ts) in
    let Q : List ℕ → Type 0 = λ x. AreTokens (after_blanks x) ts in
    let behind : drop (front_len (text ++ rest)) (text ++ rest) ≡ rest = ap (λ k. drop k (text ++ rest)) len ∙ drop-append_seam text rest in
    subst P (sym start) (some, sym tok, subst Q (sym behind) more)

-- a byte of a word is no blank and begins no comment
word_byte : (b : ℕ) → is_word_byte b ≡ true → (is_blank b ≡ false) × (b ≡ 59 → ⊥)
word_byte b e = (by_test (is_blank b) refl, λ f. let P : ℕ → Type 0 = λ k. is_word_byte k ≡ true in let g : is_word_byte 59 ≡ true = subst P f e in cc)
  where
    by_test : (t : Bool) → is_blank b ≡ t → t ≡ false
    by_test false h = refl
    by_test true h = grind (arith, nat_tests)

pub word_token : (w rest : List ℕ) (t : Tok) (ts : List Tok) → list_all is_word_byte w ≡ true → 0 < length w → EndsWord rest → word_tok w ≡
    t → AreTokens (after_blanks rest) ts → AreTokens (after_blanks (w ++ rest)) (t ∷ ts)
word_token [] rest t ts all some ends tok more = absurd (omega arith)
word_token (b ∷ w) rest t ts all some ends tok more =
    let front = word_front (b ∷ w) rest all some ends in
    let byte = word_byte b (and_parts (is_word_byte b) (list_all is_word_byte w) all).0 in
    token_front (b ∷ w) rest t ts (no_blank b (w ++ rest) byte.0) byte.1 (front.0 ∙ tok) front.1 more

sign_start : (s : Sign) (rest : List ℕ) → (after_blanks (sign_text s ++ rest) ≡ sign_text s ++ rest) × (IsEnd (sign_text s ++ rest) → ⊥)
sign_start sign.ShlAssign rest = (refl, λ e. absurd (omega arith))
sign_start s rest = (refl, λ e. absurd (omega arith))

pub sign_token : (s : Sign) (rest : List ℕ) (ts : List Tok) → EndsSign rest → AreTokens (after_blanks rest) ts → AreTokens
    (after_blanks (sign_text s ++ rest)) (Mark s ∷ ts)
sign_token s rest ts ends more =
    let front = sign_front s rest ends in
    let start = sign_start s rest in
    token_front (sign_text s) rest (Mark s) ts start.0 start.1 front.0 front.1 more

-- ---- numbers

word_digit : (d : ℕ) → digit_value d < 36 → is_word_byte d ≡ true
word_digit d h = grind (arith, nat_tests)

digit_bytes : (base : ℕ) (ds : List ℕ) → base ≤ 36 → AllDigits base ds → (list_all (is_digit_of base) ds ≡ true) × (list_all is_word_byte ds ≡ true)
digit_bytes base [] low h = (refl, refl)
digit_bytes base (d ∷ ds) low h =
    let rest = digit_bytes base ds low h.1 in
    let digit : is_digit_of base d ≡ true = lt-ltb _ _ h.0 in
    let byte : is_word_byte d ≡ true = word_digit d (omega (arith, h.0, low)) in
    (rw (digit, rest.0) refl, rw (byte, rest.1) refl)

decimal_first : (ds : List ℕ) → IsNumeral 10 ds → begins_with_digit ds ≡ true
decimal_first [] h = absurd (omega arith)
decimal_first (d ∷ ds) h = let k = h.1.0 in grind (arith, nat_tests)

no_x : (d : ℕ) → digit_value d < 10 → 120 == d ≡ false
no_x d h = by_test (120 == d) refl
  where
    by_test : (b : Bool) → 120 == d ≡ b → b ≡ false
    by_test true e = let P : ℕ → Type 0 = λ k. digit_value k < 10 in let q : digit_value 120 < 10 = subst P (sym (eqb-true _ _ e)) h in absurd (omega arith)
    by_test false e = refl

false_right : (a : Bool) → a && false ≡ false
false_right true = refl
false_right false = refl

no_prefix : (ds : List ℕ) → AllDigits 10 ds → starts_with nat_eq ds (48 ∷ 120 ∷ []) ≡ false
no_prefix [] h = refl
no_prefix (a ∷ []) h = false_right (48 == a)
no_prefix (a ∷ b ∷ ds) h = rw (no_x b h.1.0) (false_right (48 == a))

numeral_by : (base : ℕ) (ds : List ℕ) → 0 < length ds → list_all (is_digit_of base) ds ≡ true → written_in base ds ≡ Some (digits_value base ds)
numeral_by base ds some all = let long = positive (length ds) some in rw (long, all) refl

decimal_numeral : (ds : List ℕ) → IsNumeral 10 ds → word_tok ds ≡ Number (digits_value 10 ds)
unfolding word_tok written_number
decimal_numeral ds h = rw (decimal_first ds h, no_prefix ds h.1) (ap number_or_junk (numeral_by 10 ds h.0 (digit_bytes 10 ds (omega arith) h.1).0))

pub decimal_tok : (n : ℕ) → n < 2 ^ 64 → word_tok (decimal n) ≡ Number n
decimal_tok n h = let d = decimal_is_IsNumeral n h in decimal_numeral (decimal n) d.0 ∙ ap Number d.1

pub decimal_bytes : (n : ℕ) → n < 2 ^ 64 → (list_all is_word_byte (decimal n) ≡ true) × (0 < length (decimal n))
decimal_bytes n h = let d = decimal_is_IsNumeral n h in ((digit_bytes 10 (decimal n) (omega arith) d.0.1).1, d.0.0)

-- ---- sixteen hex digits

zeros_value : (k : ℕ) (ds : List ℕ) → digits_value 16 (replicate k 48 ++ ds) ≡ digits_value 16 ds
zeros_value zero ds = refl
zeros_value (suc k) ds = zeros_value k ds

zeros_digits : (k : ℕ) (ds : List ℕ) → AllDigits 16 ds → AllDigits 16 (replicate k 48 ++ ds)
zeros_digits zero ds h = h
zeros_digits (suc k) ds h = (omega arith, zeros_digits k ds h)

zeros_long : (k : ℕ) (ds : List ℕ) → 0 < length ds → 0 < length (replicate k 48 ++ ds)
zeros_long zero ds h = h
zeros_long (suc k) ds h = omega arith

hex_numeral : (hs : List ℕ) → 0 < length hs → AllDigits 16 hs → word_tok (48 ∷ 120 ∷ hs) ≡ Number (digits_value 16 hs)
unfolding word_tok written_number
hex_numeral hs some all = ap number_or_junk (numeral_by 16 hs some (digit_bytes 16 hs (omega arith) all).0)

wide_facts : (n : ℕ) → n < 2 ^ 64 → (word_tok (wide_text n) ≡ Number n) × (list_all is_word_byte (wide_text n) ≡ true)
wide_facts n small =
    let d = digits_is_IsNumeral 16 false (omega arith) (omega arith) n (omega arith) in
    let ds = digits 16 false n in
    let zeros = 16 - length ds in
    let hs = replicate zeros 48 ++ ds in
    let all : AllDigits 16 hs = zeros_digits zeros ds d.0.1 in
    let some : 0 < length hs = zeros_long zeros ds d.0.0 in (
      hex_numeral hs some all ∙ ap Number (zeros_value zeros ds ∙ d.1),
      (digit_bytes 16 hs (omega arith) all).1,
    )

-- ---- items

-- nothing that goes on a word follows
abbrev pub word_stops : List Item → Bool
word_stops [] = true
word_stops (Blank ∷ is) = true
word_stops (Is (Mark s) ∷ is) = true
word_stops (Offset z ∷ is) = true
word_stops (Target z None ∷ is) = true
word_stops is = false

-- nothing that goes on a sign follows
abbrev pub sign_stops : List Item → Bool
sign_stops [] = true
sign_stops (Blank ∷ is) = true
sign_stops (Is (Register w r) ∷ is) = true
sign_stops (Is (Word k) ∷ is) = true
sign_stops (Is (Mark sign.Open) ∷ is) = true
sign_stops (Is (Mark sign.Close) ∷ is) = true
sign_stops (Is (Mark sign.Star) ∷ is) = true
sign_stops (Is (Mark sign.Comma) ∷ is) = true
sign_stops is = false

-- no two tokens join
abbrev pub is_apart : List Item → Bool
is_apart [] = true
is_apart (Blank ∷ is) = is_apart is
is_apart (Is (Register w r) ∷ is) = word_stops is && is_apart is
is_apart (Is (Word k) ∷ is) = word_stops is && is_apart is
is_apart (Is (Mark s) ∷ is) = sign_stops is && is_apart is
is_apart (Signed z ∷ is) = word_stops is && is_apart is
is_apart (Natural n ∷ is) = word_stops is && is_apart is
is_apart (Hex n ∷ is) = word_stops is && is_apart is
is_apart (Offset z ∷ is) = word_stops is && is_apart is
is_apart (Target z None ∷ is) = word_stops is && is_apart is
is_apart is = false

mark_ends : (s : Sign) (rest : List ℕ) → EndsWord (sign_text s ++ rest)
mark_ends sign.ShlAssign rest = refl
mark_ends s rest = refl

word_stops-ends : (is : List Item) → word_stops is ≡ true → EndsWord (text_of is)
word_stops-ends [] h = tt
word_stops-ends (Blank ∷ is) h = refl
word_stops-ends (Is (Mark s) ∷ is) h = mark_ends s (text_of is)
word_stops-ends (Offset (pos n) ∷ is) h = refl
word_stops-ends (Offset (negsuc n) ∷ is) h = refl
word_stops-ends (Target (pos n) None ∷ is) h = refl
word_stops-ends (Target (negsuc n) None ∷ is) h = refl
word_stops-ends is h = cc

word_ends : (w rest : List ℕ) → list_all is_word_byte w ≡ true → 0 < length w → EndsSign (w ++ rest)
word_ends [] rest all some = absurd (omega arith)
word_ends (b ∷ w) rest all some = by_byte b (and_parts (is_word_byte b) (list_all is_word_byte w) all).0
  where
    other : (b c : ℕ) → is_word_byte b ≡ true → is_word_byte c ≡ false → c == b ≡ false
    other b c e f = by_test (c == b) refl
      where
        by_test : (t : Bool) → c == b ≡ t → t ≡ false
        by_test false h = refl
        by_test true h = sym e ∙ ap is_word_byte (sym (eqb-true c b h)) ∙ f

    by_byte : (b : ℕ) → is_word_byte b ≡ true → (61 == b ≡ false) × (60 == b ≡ false) × (62 == b ≡ false)
    by_byte b e = (other b 61 e refl, other b 60 e refl, other b 62 e refl)

register_ends : (w : Width) (r : Reg) (rest : List ℕ) → EndsSign (register_text w r ++ rest)
register_ends w r rest = let b = register_bytes w r in word_ends (register_text w r) rest b.0 (ltb-true _ _ b.1)

keyword_ends : (k : Keyword) (rest : List ℕ) → EndsSign (keyword_text k ++ rest)
keyword_ends k rest = let b = keyword_bytes k in word_ends (keyword_text k) rest b.0 (ltb-true _ _ b.1)

sign_stops-ends : (is : List Item) → sign_stops is ≡ true → EndsSign (text_of is)
sign_stops-ends [] h = tt
sign_stops-ends (Blank ∷ is) h = (refl, refl, refl)
sign_stops-ends (Is (Register w r) ∷ is) h = register_ends w r (text_of is)
sign_stops-ends (Is (Word k) ∷ is) h = keyword_ends k (text_of is)
sign_stops-ends (Is (Mark sign.Open) ∷ is) h = (refl, refl, refl)
sign_stops-ends (Is (Mark sign.Close) ∷ is) h = (refl, refl, refl)
sign_stops-ends (Is (Mark sign.Star) ∷ is) h = (refl, refl, refl)
sign_stops-ends (Is (Mark sign.Comma) ∷ is) h = (refl, refl, refl)
sign_stops-ends is h = cc

-- 64 bits hold the item's number
abbrev pub SmallInteger : ℤ → Type 0
SmallInteger (pos n) = n < 2 ^ 64
SmallInteger (negsuc n) = n + 1 < 2 ^ 64

abbrev pub IsSmall : Item → Type 0
IsSmall (Signed z) = SmallInteger z
IsSmall (Natural n) = n < 2 ^ 64
IsSmall (Hex n) = n < 2 ^ 64
IsSmall (Offset z) = SmallInteger z
IsSmall (Target z name) = SmallInteger z
IsSmall i = Unit {0}

abbrev pub AreSmall : List Item → Type 0
AreSmall [] = Unit {0}
AreSmall (i ∷ is) = IsSmall i × AreSmall is

abbrev Tokens : List ℕ → List Tok → Type 0
Tokens text ts = AreTokens (after_blanks text) ts

natural_token : (n : ℕ) (rest : List ℕ) (ts : List Tok) → n < 2 ^ 64 → EndsWord rest → Tokens rest ts → Tokens (decimal n ++ rest) (Number n ∷ ts)
natural_token n rest ts small ends more = let b = decimal_bytes n small in word_token (decimal n) rest (Number n) ts b.0 b.1 ends (decimal_tok n small) more

blank_token : (rest : List ℕ) (ts : List Tok) → Tokens rest ts → Tokens (32 ∷ rest) ts
blank_token rest ts h = let P : List ℕ → Type 0 = λ x. AreTokens x ts in subst P (sym (blank_first 32 rest refl)) h

number_ends : (n : ℕ) (rest : List ℕ) → n < 2 ^ 64 → EndsSign (decimal n ++ rest)
number_ends n rest small = let b = decimal_bytes n small in word_ends (decimal n) rest b.0 b.1

-- ALL THE TOKENS of a form's text
pub shown : (is : List Item) → is_apart is ≡ true → AreSmall is → (ts : List Tok) × Tokens (text_of is) ts × Spells is ts
shown [] apart small = ([], tt, refl)
shown (Blank ∷ is) apart small =
    let rest = shown is apart small.1 in
    (rest.0, blank_token (text_of is) rest.0 rest.1, rest.2)
shown (Is (Register w r) ∷ is) apart small =
    let p = and_parts (word_stops is) (is_apart is) apart in
    let rest = shown is p.1 small.1 in
    let b = register_bytes w r in (
      Register w r ∷ rest.0,
      word_token (register_text w r) (text_of is) (Register w r) rest.0 b.0 (ltb-true _ _ b.1)
          (word_stops-ends is p.0) (register_tok w r) rest.1,
      (refl, rest.2),
    )
shown (Is (Word k) ∷ is) apart small =
    let p = and_parts (word_stops is) (is_apart is) apart in
    let rest = shown is p.1 small.1 in
    let b = keyword_bytes k in (
      Word k ∷ rest.0,
      word_token (keyword_text k) (text_of is) (Word k) rest.0 b.0 (ltb-true _ _ b.1) (word_stops-ends is p.0)
          (keyword_tok k) rest.1,
      (refl, rest.2),
    )
shown (Is (Mark s) ∷ is) apart small =
    let p = and_parts (sign_stops is) (is_apart is) apart in
    let rest = shown is p.1 small.1 in
    (Mark s ∷ rest.0, sign_token s (text_of is) rest.0 (sign_stops-ends is p.0) rest.1, (refl, rest.2))
shown (Signed (pos n) ∷ is) apart small =
    let p = and_parts (word_stops is) (is_apart is) apart in
    let rest = shown is p.1 small.1 in
    (Number n ∷ rest.0, natural_token n (text_of is) rest.0 small.0 (word_stops-ends is p.0) rest.1, (refl, rest.2))
shown (Signed (negsuc n) ∷ is) apart small =
    let p = and_parts (word_stops is) (is_apart is) apart in
    let rest = shown is p.1 small.1 in
    let fits : suc n < 2 ^ 64 = omega (arith, small.0) in (
      Mark sign.Minus ∷ Number (suc n) ∷ rest.0,
      sign_token sign.Minus (decimal (suc n) ++ text_of is) (Number (suc n) ∷ rest.0)
          (number_ends (suc n) (text_of is) fits) (natural_token (suc n) (text_of is) rest.0 fits (word_stops-ends is p.0) rest.1),
      (refl, rest.2),
    )
shown (Natural n ∷ is) apart small =
    let p = and_parts (word_stops is) (is_apart is) apart in
    let rest = shown is p.1 small.1 in
    (Number n ∷ rest.0, natural_token n (text_of is) rest.0 small.0 (word_stops-ends is p.0) rest.1, (refl, rest.2))
shown (Hex n ∷ is) apart small =
    let p = and_parts (word_stops is) (is_apart is) apart in
    let rest = shown is p.1 small.1 in (
      Number n ∷ rest.0,
      (let h = wide_facts n small.0 in word_token (wide_text n) (text_of is) (Number n) rest.0 h.1 (omega arith) (word_stops-ends is p.0) h.0 rest.1),
      (refl, rest.2),
    )
shown (Offset (pos n) ∷ is) apart small =
    let p = and_parts (word_stops is) (is_apart is) apart in
    let rest = shown is p.1 small.1 in (
      Mark sign.Plus ∷ Number n ∷ rest.0,
      sign_token sign.Plus (32 ∷ decimal n ++ text_of is) (Number n ∷ rest.0) (refl, refl, refl)
          (blank_token (decimal n ++ text_of is) (Number n ∷ rest.0) (natural_token n (text_of is) rest.0 small.0 (word_stops-ends is p.0)
          rest.1)),
      (refl, rest.2),
    )
shown (Offset (negsuc n) ∷ is) apart small =
    let p = and_parts (word_stops is) (is_apart is) apart in
    let rest = shown is p.1 small.1 in
    let value : negsuc n ≡ neg_ℤ (pos (n + 1)) = ap (λ k. neg_ℤ (pos k)) (sym (add-one n)) in (
      Mark sign.Minus ∷ Number (n + 1) ∷ rest.0,
      sign_token sign.Minus (32 ∷ decimal (n + 1) ++ text_of is) (Number (n + 1) ∷ rest.0)
          (refl, refl, refl) (blank_token (decimal (n + 1) ++ text_of is) (Number (n + 1) ∷ rest.0)
          (natural_token (n + 1) (text_of is) rest.0 small.0 (word_stops-ends is p.0) rest.1)),
      (value, rest.2),
    )
shown (Target (pos n) None ∷ is) apart small =
    let p = and_parts (word_stops is) (is_apart is) apart in
    let rest = shown is p.1 small.1 in (
      Mark sign.Plus ∷ Number n ∷ rest.0,
      sign_token sign.Plus (decimal n ++ text_of is) (Number n ∷ rest.0)
          (number_ends n (text_of is) small.0) (natural_token n (text_of is) rest.0 small.0 (word_stops-ends is p.0) rest.1),
      (refl, rest.2),
    )
shown (Target (negsuc n) None ∷ is) apart small =
    let p = and_parts (word_stops is) (is_apart is) apart in
    let rest = shown is p.1 small.1 in
    let value : negsuc n ≡ neg_ℤ (pos (n + 1)) = ap (λ k. neg_ℤ (pos k)) (sym (add-one n)) in (
      Mark sign.Minus ∷ Number (n + 1) ∷ rest.0,
      sign_token sign.Minus (decimal (n + 1) ++ text_of is) (Number (n + 1) ∷ rest.0)
          (number_ends (n + 1) (text_of is) small.0) (natural_token (n + 1) (text_of is) rest.0 small.0 (word_stops-ends is p.0) rest.1),
      (value, rest.2),
    )
shown is apart small = cc

-- ---- no text of a form has a line feed

abbrev in_lines : List ℕ → Bool
in_lines bs = list_all in_line bs

in_lines-append : (xs ys : List ℕ) → in_lines xs ≡ true → in_lines ys ≡ true → in_lines (xs ++ ys) ≡ true
in_lines-append [] ys h k = k
in_lines-append (x ∷ xs) ys h k = let p = and_parts (in_line x) (in_lines xs) h in and_from (in_line x) (in_lines (xs ++ ys)) p.0 (in_lines-append xs ys p.1 k)

byte_in_line : (b : ℕ) → is_word_byte b ≡ true → in_line b ≡ true
byte_in_line b e = grind (arith, nat_tests)

word_in_lines : (w : List ℕ) → list_all is_word_byte w ≡ true → in_lines w ≡ true
word_in_lines [] h = refl
word_in_lines (b ∷ w) h =
    let p = and_parts (is_word_byte b) (list_all is_word_byte w) h in and_from (in_line b) (in_lines w) (byte_in_line b p.0) (word_in_lines w p.1)

sign_in_lines : (s : Sign) → in_lines (sign_text s) ≡ true
sign_in_lines sign.ShlAssign = refl
sign_in_lines s = refl

item_in_lines : (i : Item) (is : List Item) → is_apart (i ∷ is) ≡ true → IsSmall i → in_lines (item_text i) ≡ true
item_in_lines Blank is apart small = refl
item_in_lines (Is (Register w r)) is apart small = word_in_lines (register_text w r) (register_bytes w r).0
item_in_lines (Is (Word k)) is apart small = word_in_lines (keyword_text k) (keyword_bytes k).0
item_in_lines (Is (Mark s)) is apart small = sign_in_lines s
item_in_lines (Signed (pos n)) is apart small = word_in_lines (decimal n) (decimal_bytes n small).0
item_in_lines (Signed (negsuc n)) is apart small =
    let fits : suc n < 2 ^ 64 = omega (arith, small) in word_in_lines (decimal (suc n)) (decimal_bytes (suc n) fits).0
item_in_lines (Natural n) is apart small = word_in_lines (decimal n) (decimal_bytes n small).0
item_in_lines (Hex n) is apart small = word_in_lines (wide_text n) (wide_facts n small).1
item_in_lines (Offset (pos n)) is apart small = word_in_lines (decimal n) (decimal_bytes n small).0
item_in_lines (Offset (negsuc n)) is apart small = word_in_lines (decimal (n + 1)) (decimal_bytes (n + 1) small).0
item_in_lines (Target (pos n) None) is apart small = word_in_lines (decimal n) (decimal_bytes n small).0
item_in_lines (Target (negsuc n) None) is apart small = word_in_lines (decimal (n + 1)) (decimal_bytes (n + 1) small).0
item_in_lines i is apart small = cc

apart_rest : (i : Item) (is : List Item) → is_apart (i ∷ is) ≡ true → is_apart is ≡ true
apart_rest Blank is h = h
apart_rest (Is (Register w r)) is h = (and_parts (word_stops is) (is_apart is) h).1
apart_rest (Is (Word k)) is h = (and_parts (word_stops is) (is_apart is) h).1
apart_rest (Is (Mark s)) is h = (and_parts (sign_stops is) (is_apart is) h).1
apart_rest (Signed z) is h = (and_parts (word_stops is) (is_apart is) h).1
apart_rest (Natural n) is h = (and_parts (word_stops is) (is_apart is) h).1
apart_rest (Hex n) is h = (and_parts (word_stops is) (is_apart is) h).1
apart_rest (Offset z) is h = (and_parts (word_stops is) (is_apart is) h).1
apart_rest (Target z None) is h = (and_parts (word_stops is) (is_apart is) h).1
apart_rest i is h = cc

pub form_in_line : (is : List Item) → is_apart is ≡ true → AreSmall is → in_lines (text_of is) ≡ true
form_in_line [] apart small = refl
form_in_line (i ∷ is) apart small = in_lines-append (item_text i) (text_of is) (item_in_lines i is apart small.0)
    (form_in_line is (apart_rest i is apart) small.1)
