-- What bytes stand for is one thing alone.
use Rattle.std.proofs.Common.{◌≡◌, ◌≢◌, ℕ, ◌+◌, ◌*◌, ◌/◌, ◌%◌, ◌<◌, ◌≤◌, nat_eq, cond, List, [], ◌∷◌, ◌++◌, length, drop, Some, refl, sym}
use Rattle.std.proofs.Common.{ap, subst, ◌∙◌, arith, All}
use Rattle.std.proofs.lemmas.Bool.{le-ltb}
use Rattle.std.proofs.lemmas.List.{drop-drop, length-drop}
use Rattle.std.proofs.lemmas.List.Elements.{All-drop}
use Rattle.bpf_insn.specs.Table.{row_of, word_count, words, word_length}
use Rattle.bpf_insn.specs.Encoding.{word_at, next_at, window_at, IsFollowed, BeginsWith, IsEncodedAs}
use Rattle.bpf_insn.specs.Refusal.{error_at, error_number, IsFirstAmiss, IsWrongAfter, IsWrong, max_words, IsSized, IsRefused}
use Rattle.bpf_insn.specs.Private.Bytes.{word_bytes}
use Rattle.bpf_insn.specs.Laws.{EncodingsAreDecoded, WordsAreDetermined, EncodingsAreDetermined, RefusalsAreDetermined}
use Rattle.bpf_insn.specs.declared.instruction.Insn.{Insn}
use Rattle.bpf_insn.specs.declared.row.Encoding.{Encoding}
use Rattle.bpf_insn.specs.declared.row.Encoding.TheVariants.{Basic, Wide}
use Rattle.bpf_insn.specs.declared.word.Word.{Word}
use Rattle.bpf_insn.specs.declared.word.Window.{Window}
use Rattle.bpf_insn.specs.declared.fault.Fault.{Fault}
use Rattle.bpf_insn.specs.declared.fault.Fault.TheVariants.{UnknownOpcode, ReservedNotZero, HalfWide, BadRegister}
use Rattle.bpf_insn.specs.declared.error.InsnError.{InsnError}
use Rattle.bpf_insn.specs.declared.error.InsnError.TheVariants as error
use Rattle.bpf_insn.proofs.Program.{one_front, none_wrong as none_wrong_front, words_some}

-- ---- one list at most

not_begun : (i : Insn) (bytes : List ℕ) → BeginsWith i bytes → bytes ≢ []
not_begun i bytes b e =
    let long = b.long in
    let some = words_some (row_of i).encoding in
    let none : length bytes ≡ 0 = ap length e in
    absurd (omega arith)

one_list : (is js : List Insn) (bytes : List ℕ) → IsEncodedAs is bytes → IsEncodedAs js bytes → is ≡ js
one_list [] [] bytes c d = refl
one_list [] (j ∷ js) bytes c d = absurd (not_begun j bytes d.0 c)
one_list (i ∷ is) [] bytes c d = absurd (not_begun i bytes c.0 d)
one_list (i ∷ is) (j ∷ js) bytes c d =
    let e : i ≡ j = one_front i j bytes c.0 d.0 in
    let P : Insn → Type 0 = λ x. IsEncodedAs js (drop (8 * words x) bytes) in
    let tail : is ≡ js = one_list is js (drop (8 * words i) bytes) c.1 (subst P (sym e) d.1) in
    cc

pub words_are_determined : WordsAreDetermined
words_are_determined bytes is js c d = one_list is js bytes c d

-- ---- one encoding

-- the fields of a word say all of its bytes
rejoined : (bytes : List ℕ) → All (λ x. x < 256) bytes → 8 ≤ length bytes → word_bytes (word_at bytes) ++ drop 8 bytes ≡ bytes
rejoined (a ∷ b ∷ c ∷ d ∷ e ∷ f ∷ g ∷ h ∷ rest) small l =
    let c-small : c < 256 = small 2 0 (omega arith) in
    let d-small : d < 256 = small 3 0 (omega arith) in
    let e-small : e < 256 = small 4 0 (omega arith) in
    let f-small : f < 256 = small 5 0 (omega arith) in
    let g-small : g < 256 = small 6 0 (omega arith) in
    let h-small : h < 256 = small 7 0 (omega arith) in
    let o : ℕ = c + 256 * (d + 256 * 0) in
    let n : ℕ = e + 256 * (f + 256 * (g + 256 * (h + 256 * 0))) in
    let b-is : b % 16 + 16 * (b / 16) ≡ b = omega arith in
    let c-is : o % 256 ≡ c = omega arith in
    let d-is : o / 256 % 256 ≡ d = omega arith in
    let e-is : n % 256 ≡ e = omega arith in
    let f-is : n / 256 % 256 ≡ f = omega arith in
    let g-is : n / 65536 % 256 ≡ g = omega arith in
    let h-is : n / 16777216 % 256 ≡ h = omega arith in
    cc
rejoined bytes small l = absurd (omega arith)

one_word : (a b : List ℕ) → All (λ x. x < 256) a → All (λ x. x < 256) b → 8 ≤ length a → 8 ≤ length b → word_at a ≡ word_at b → drop 8 a ≡ drop 8 b → a ≡ b
one_word a b x y k l w r =
    let front : word_bytes (word_at a) ++ drop 8 a ≡ word_bytes (word_at b) ++ drop 8 b = ap (λ (v : Word). word_bytes v ++ drop 8 a) w ∙ ap
    (λ (v : List ℕ). word_bytes (word_at b) ++ v) r in
    sym (rejoined a x k) ∙ front ∙ rejoined b y l

next_of : (bytes : List ℕ) → 16 ≤ length bytes → next_at bytes ≡ Some (word_at (drop 8 bytes))
next_of bytes h = rw (le-ltb (length bytes) 16 h) refl

one_front_bytes : (s : Encoding) (a b : List ℕ) → All (λ x. x < 256) a → All (λ x. x < 256) b → 8 * word_count s ≤ length a → 8 * word_count
    s ≤ length b → word_at a ≡ word_at b → IsFollowed s (next_at a) → IsFollowed s (next_at b) → drop (8 * word_count s) a ≡ drop
    (8 * word_count s) b → a ≡ b
one_front_bytes Basic a b x y k l w f g r = one_word a b x y (omega arith) (omega arith) w r
one_front_bytes (Wide h) a b x y k l w f g r =
    let both : Some (word_at (drop 8 a)) ≡ Some (word_at (drop 8 b)) = sym (next_of a k) ∙ f ∙ sym g ∙ next_of b l in
    let second : word_at (drop 8 a) ≡ word_at (drop 8 b) = cc in
    let rest : drop 8 (drop 8 a) ≡ drop 8 (drop 8 b) = drop-drop 8 8 a ∙ r ∙ sym (drop-drop 8 8 b) in
    let behind : drop 8 a ≡ drop 8 b = one_word (drop 8 a) (drop 8 b) (All-drop (λ x. x < 256) 8 a x) (All-drop (λ x. x < 256) 8 b y)
    (omega (arith, length-drop 8 a)) (omega (arith, length-drop 8 b)) second rest in
    one_word a b x y (omega arith) (omega arith) w behind

one_encoding : (is : List Insn) (a b : List ℕ) → All (λ x. x < 256) a → All (λ x. x < 256) b → IsEncodedAs is a → IsEncodedAs is b → a ≡ b
one_encoding [] a b x y c d = c ∙ sym d
one_encoding (i ∷ is) a b x y c d =
    let rest = one_encoding is (drop (8 * words i) a) (drop (8 * words i) b) (All-drop (λ x. x < 256) (8 * words i) a x)
    (All-drop (λ x. x < 256) (8 * words i) b y) c.1 d.1 in
    one_front_bytes (row_of i).encoding a b x y c.0.long d.0.long (c.0.written.first ∙ sym d.0.written.first) c.0.written.second d.0.written.second rest

pub encodings_are_determined : EncodingsAreDetermined
encodings_are_determined is a b x y c d = one_encoding is a b x y c d

-- ---- one refusal at most

-- the refusal that has this number
fault_of : ℕ → Fault
fault_of n = cond (nat_eq n 4) UnknownOpcode (cond (nat_eq n 5) ReservedNotZero (cond (nat_eq n 6) HalfWide BadRegister))

fault_of-number : (f : Fault) → fault_of (error_number (error_at f 0)) ≡ f
unfolding fault_of
fault_of-number UnknownOpcode = refl
fault_of-number ReservedNotZero = refl
fault_of-number HalfWide = refl
fault_of-number BadRegister = refl

one_first : (f g : Fault) (w : Window) → IsFirstAmiss w f → IsFirstAmiss w g → f ≡ g
one_first f g w x y =
    let below = x.least g y.applies refl in
    let above = y.least f x.applies refl in
    let same : error_number (error_at f 0) ≡ error_number (error_at g 0) = omega arith in
    sym (fault_of-number f) ∙ ap fault_of same ∙ fault_of-number g

abbrev Same : ℕ → ℕ → Fault → Fault → Type 0
Same p q f g = (p ≡ q) × (f ≡ g)

one_wrong : (is js : List Insn) (p q : ℕ) (f g : Fault) (bytes : List ℕ) → IsWrongAfter is p f bytes → IsWrongAfter js q g bytes → Same p q f g
one_wrong [] [] p q f g bytes x y = (x.0 ∙ sym y.0, one_first f g (window_at bytes) x.2 y.2)
one_wrong [] (j ∷ js) p q f g bytes x y = absurd (none_wrong_front f j bytes x.2 y.2)
one_wrong (i ∷ is) [] p q f g bytes x y = absurd (none_wrong_front g i bytes y.2 x.2)
one_wrong (i ∷ is) (j ∷ js) p q f g bytes x y =
    let e : i ≡ j = one_front i j bytes x.2 y.2 in
    let P : Insn → Type 0 = λ k. IsWrongAfter js y.0 g (drop (8 * words k) bytes) in
    let tail = one_wrong is js x.0 y.0 f g (drop (8 * words i) bytes) x.3 (subst P (sym e) y.3) in
    let count : words i ≡ words j = ap (λ (k : Insn). words k) e in
    let at : x.0 ≡ y.0 = tail.0 in
    let first : p ≡ words i + x.0 = x.1 in
    let second : q ≡ words j + y.0 = y.1 in
    (omega arith, tail.1)

-- ---- and none where there are instructions

none_wrong : (is js : List Insn) (p : ℕ) (f : Fault) (bytes : List ℕ) → IsWrongAfter is p f bytes → IsEncodedAs js bytes → ⊥
none_wrong [] [] p f bytes x c = let none : length bytes ≡ 0 = ap length c in let some : 8 ≤ length bytes = x.1 in absurd (omega arith)
none_wrong [] (j ∷ js) p f bytes x c = none_wrong_front f j bytes x.2 c.0
none_wrong (i ∷ is) [] p f bytes x c = not_begun i bytes x.2 c
none_wrong (i ∷ is) (j ∷ js) p f bytes x c =
    let e : i ≡ j = one_front i j bytes x.2 c.0 in
    let P : Insn → Type 0 = λ k. IsEncodedAs js (drop (8 * words k) bytes) in
    none_wrong is js x.0 f (drop (8 * words i) bytes) x.3 (subst P (sym e) c.1)

-- ---- of a length

-- what is wrong with bytes of the right length
record IsWrongWith (e : InsnError) (bytes : List ℕ) : Type 0 where
  fault : Fault
  pc : ℕ
  named : e ≡ error_at fault pc
  wrong : IsWrong pc fault bytes

wrong_with : (e : InsnError) (bytes : List ℕ) → e ≢ error.OutOfMemory → IsSized bytes → IsRefused e bytes → IsWrongWith e bytes
wrong_with error.Empty bytes n s r = absurd (s.some r)
wrong_with (error.Ragged k) bytes n s r = absurd (r.1 s.whole)
wrong_with error.TooLong bytes n s r = let long = r.1 in let short = s.bounded in absurd (omega arith)
wrong_with (error.UnknownOpcode pc) bytes n s r = record { fault = UnknownOpcode; pc = pc; named = refl; wrong = r.1 }
wrong_with (error.ReservedNotZero pc) bytes n s r = record { fault = ReservedNotZero; pc = pc; named = refl; wrong = r.1 }
wrong_with (error.HalfWide pc) bytes n s r = record { fault = HalfWide; pc = pc; named = refl; wrong = r.1 }
wrong_with (error.BadRegister pc) bytes n s r = record { fault = BadRegister; pc = pc; named = refl; wrong = r.1 }
wrong_with error.OutOfMemory bytes n s r = absurd (n refl)

one_sized : (e f : InsnError) (bytes : List ℕ) → IsSized bytes → IsWrongWith e bytes → IsWrongWith f bytes → e ≡ f
one_sized e f bytes s x y =
    let same = one_wrong x.wrong.0 y.wrong.0 x.pc y.pc x.fault y.fault bytes x.wrong.1 y.wrong.1 in
    x.named ∙ ap (λ (pc : ℕ). error_at x.fault pc) same.0 ∙ ap (λ (k : Fault). error_at k y.pc) same.1 ∙ sym y.named

only_empty : (e : InsnError) (bytes : List ℕ) → bytes ≡ [] → e ≢ error.OutOfMemory → IsRefused e bytes → error.Empty ≡ e
only_empty error.Empty bytes z n r = refl
only_empty (error.Ragged k) bytes z n r = absurd (let none : length bytes ≡ 0 = ap length z in r.1 (omega arith))
only_empty error.TooLong bytes z n r = let none : length bytes ≡ 0 = ap length z in let long = r.1 in absurd (omega arith)
only_empty error.OutOfMemory bytes z n r = absurd (n refl)
only_empty e bytes z n r = absurd (r.0.some z)

only_ragged : (e : InsnError) (bytes : List ℕ) → length bytes % 8 ≢ 0 → e ≢ error.OutOfMemory → IsRefused e bytes → error.Ragged (length bytes) ≡ e
only_ragged error.Empty bytes z n r = absurd (let none : length bytes ≡ 0 = ap length r in z (omega arith))
only_ragged (error.Ragged k) bytes z n r = ap error.Ragged (sym r.0)
only_ragged error.TooLong bytes z n r = absurd (z r.0)
only_ragged error.OutOfMemory bytes z n r = absurd (n refl)
only_ragged e bytes z n r = absurd (z r.0.whole)

only_long : (e : InsnError) (bytes : List ℕ) → length bytes % 8 ≡ 0 → 8 * max_words < length bytes → e ≢ error.OutOfMemory → IsRefused e
    bytes → error.TooLong ≡ e
only_long error.Empty bytes w z n r = let none : length bytes ≡ 0 = ap length r in absurd (omega arith)
only_long (error.Ragged k) bytes w z n r = absurd (r.1 w)
only_long error.TooLong bytes w z n r = refl
only_long error.OutOfMemory bytes w z n r = absurd (n refl)
only_long e bytes w z n r = let short = r.0.bounded in absurd (omega arith)

one_refusal : (e f : InsnError) (bytes : List ℕ) → e ≢ error.OutOfMemory → f ≢ error.OutOfMemory → IsRefused e bytes → IsRefused f bytes → e ≡ f
one_refusal error.Empty f bytes n m r q = only_empty f bytes r m q
one_refusal (error.Ragged k) f bytes n m r q = ap error.Ragged r.0 ∙ only_ragged f bytes r.1 m q
one_refusal error.TooLong f bytes n m r q = only_long f bytes r.0 r.1 m q
one_refusal error.OutOfMemory f bytes n m r q = absurd (n refl)
one_refusal e f bytes n m r q = one_sized e f bytes r.0 (wrong_with e bytes n r.0 r) (wrong_with f bytes m r.0 q)

none_refused : (is : List Insn) (e : InsnError) (bytes : List ℕ) → IsSized bytes → IsEncodedAs is bytes → IsWrongWith e bytes → ⊥
none_refused is e bytes s c x = none_wrong x.wrong.0 is x.pc x.fault bytes x.wrong.1 c

pub refusals_are_determined : RefusalsAreDetermined
refusals_are_determined = (λ bytes e f n m r q. one_refusal e f bytes n m r q, λ bytes is e n s c r. none_refused is e bytes s c (wrong_with e bytes n s r))

-- ---- what is encoded is decoded

encoded_length : (is : List Insn) (bytes : List ℕ) → IsEncodedAs is bytes → length bytes ≡ 8 * word_length is
encoded_length [] bytes c = ap length c
encoded_length (i ∷ is) bytes c =
    let rest = encoded_length is (drop (8 * words i) bytes) c.1 in
    let long = c.0.long in
    omega (arith, length-drop (8 * words i) bytes)

only_memory : (is : List Insn) (e : InsnError) (bytes : List ℕ) → IsSized bytes → IsEncodedAs is bytes → IsRefused e bytes → e ≡ error.OutOfMemory
only_memory is error.OutOfMemory bytes s c r = refl
only_memory is error.Empty bytes s c r = absurd (refusals_are_determined.1 bytes is error.Empty (λ n. cc) s c r)
only_memory is e bytes s c r = absurd (refusals_are_determined.1 bytes is e (λ n. cc) s c r)

pub encodings_are_decoded : EncodingsAreDecoded
encodings_are_decoded is bytes some few c =
    let long = encoded_length is bytes c in
    let sized : IsSized bytes = record
    { some = λ e. let none : length bytes ≡ 0 = ap length e in absurd (omega arith); whole = omega arith; bounded = omega arith } in
    (sized, λ js d. one_list js is bytes d c, λ e r. only_memory is e bytes sized c r)
