-- What is read of bytes and of maps.
use Rattle.std.proofs.Common.{◌≡◌, ℕ, suc, ◌+◌, ◌-◌, ◌<◌, ◌≤◌, ◌++◌, List, [], ◌∷◌, length, get_or, map, false, Option, Some, None, inl}
use Rattle.std.proofs.Common.{inr, refl, sym, ap, subst, ◌∙◌, arith, option_map, is_some}
use Rattle.std.specs.Prelude.{Vec, String, slice_get, slice_index, option_and_then, string_bytes, IfNone}
use Rattle.std.proofs.lemmas.Bool.{cases_lt}
use Rattle.std.proofs.lemmas.Option.{slice_get-map, slice_get_read, slice_get_past}
use Rattle.std.proofs.Math.ListN.{get_or-append}
use Rattle.std.proofs.lemmas.List.{length-map, get_or-map, get_or-append_right}
use Rattle.std.specs.declared.alloc.Global.{Global}
use Rattle.bpf_mem.specs.declared.memory.PrivateMemory.{PrivateMemory}
use Rattle.bpf_mem.specs.Memory.{byte_at, bytes_at}
use Rattle.bpf_plain.specs.PlainStore.{Contents}
use Rattle.bpf_shared.specs.Listing.{Pair, pair_of}
use Rattle.bpf_cpu.specs.declared.cpu.Cpu.{Cpu}
use Rattle.bpf_debug.specs.Read.{key_line, key_lines, pair_line, pair_lines, ReadsByte}

-- ---- one byte
alone : (o : Option ℕ) → option_and_then (λ (b : ℕ). option_map (λ (bs : List ℕ). b ∷ bs) (Some [])) o ≡ option_map (λ (b : ℕ). b ∷ []) o
alone None = refl
alone (Some b) = refl

pub one_byte : (m : PrivateMemory) (a : ℕ) → bytes_at m a 1 ≡ option_map (λ (b : ℕ). b ∷ []) (byte_at m a)
unfolding bytes_at
one_byte m a = alone (byte_at m a)

byte_from : (o : Option ℕ) (bytes : List ℕ) → option_map (λ (c : ℕ). c ∷ []) o ≡ Some bytes → Some (get_or bytes 0 0) ≡ o
byte_from None bytes e = cc
byte_from (Some c) bytes e = let same : c ∷ [] ≡ bytes = cc in sym (ap (λ (bs : List ℕ). Some (get_or bs 0 0)) same)

pub byte_is : (m : PrivateMemory) (a b : ℕ) (bytes : List ℕ) → bytes_at m b 1 ≡ Some bytes → b ≡ a → Some (get_or bytes 0 0) ≡ byte_at m a
byte_is m a b bytes e same =
    let P : ℕ → Type 0 = λ n. bytes_at m n 1 ≡ Some bytes in
    byte_from (byte_at m a) bytes (sym (one_byte m a) ∙ subst P same e)

none_from : (o : Option ℕ) → false ≡ is_some (option_map (λ (c : ℕ). c ∷ []) o) → None ≡ o
none_from None e = refl
none_from (Some c) e = cc

pub byte_is_none : (m : PrivateMemory) (a : ℕ) → false ≡ is_some (bytes_at m a 1) → None ≡ byte_at m a
byte_is_none m a e = none_from (byte_at m a) (e ∙ ap (λ (o : Option (List ℕ)). is_some o) (one_byte m a))

sized_from : (o : Option ℕ) (bytes : List ℕ) → option_map (λ (c : ℕ). c ∷ []) o ≡ Some bytes → length bytes ≡ 1
sized_from None bytes e = cc
sized_from (Some c) bytes e = let same : c ∷ [] ≡ bytes = cc in sym (ap (λ (bs : List ℕ). length bs) same)

pub one_long : (m : PrivateMemory) (a : ℕ) (bytes : List ℕ) → bytes_at m a 1 ≡ Some bytes → length bytes ≡ 1
one_long m a bytes e = sized_from (byte_at m a) bytes (sym (one_byte m a) ∙ e)

-- ---- maps
-- the lines of one key more
pub one_pair_more : (text new : List ℕ) (pairs : List (Vec ℕ Global × Vec ℕ Global)) (i : ℕ) (x : Vec ℕ Global × Vec ℕ Global) → i < length
    pairs → x ≡ get_or pairs i x
    → text ≡ pair_lines i (map pair_of pairs) → new ≡ text ++ pair_line (x.0.items, x.1.items) → new ≡ pair_lines (i + 1) (map pair_of pairs)
one_pair_more text new pairs i x inside e so_far more =
    let pair : get_or (map pair_of pairs) i ([], []) ≡ pair_of x = get_or-map pair_of pairs i x ([], []) inside ∙ ap pair_of (sym e) in
    let next : suc i ≡ i + 1 = omega arith in
    subst (λ (n : ℕ). new ≡ pair_lines n (map pair_of pairs)) next
    (more ∙ ap (λ (t : List ℕ). t ++ pair_line (x.0.items, x.1.items)) so_far ∙ ap (λ (p : Pair). pair_lines i (map pair_of pairs) ++ pair_line p) (sym pair))

pub one_key_more : (text new : List ℕ) (pairs : List (Vec ℕ Global × Vec ℕ Global)) (i : ℕ) (x : Vec ℕ Global × Vec ℕ Global) → i < length
    pairs → x ≡ get_or pairs i x
    → text ≡ key_lines i (map pair_of pairs) → new ≡ text ++ key_line (x.0.items, x.1.items) → new ≡ key_lines (i + 1) (map pair_of pairs)
one_key_more text new pairs i x inside e so_far more =
    let pair : get_or (map pair_of pairs) i ([], []) ≡ pair_of x = get_or-map pair_of pairs i x ([], []) inside ∙ ap pair_of (sym e) in
    let next : suc i ≡ i + 1 = omega arith in
    subst (λ (n : ℕ). new ≡ key_lines n (map pair_of pairs)) next
    (more ∙ ap (λ (t : List ℕ). t ++ key_line (x.0.items, x.1.items)) so_far ∙ ap (λ (p : Pair). key_lines i (map pair_of pairs) ++ key_line p) (sym pair))

-- ---- names
pub name_there : (names : List (String Global)) (own : String Global) (m : ℕ) → m < length names → own ≡ get_or names m own → slice_get
    (map (λ n. string_bytes n) names) m ≡ Some (string_bytes own)
name_there names own m inside is =
    slice_get-map (λ n. string_bytes n) names m ∙ ap (option_map (λ n. string_bytes n)) (slice_get_read names (length names) m own refl inside is)

pub name_not_there : (names : List (String Global)) (own : String Global) (name : List ℕ) (m : ℕ) → m < length names → own ≡ get_or names m
    own → (string_bytes own ≡ name → ⊥)
    → ((k : ℕ) → k < m → slice_get (map (λ n. string_bytes n) names) k ≡ Some name → ⊥) → (k : ℕ) → k < m + 1 → slice_get
    (map (λ n. string_bytes n) names) k ≡ Some name → ⊥
name_not_there names own name m inside is other before k less at = elim (cases_lt k m) [
  | inl below ↦ before k below at
  | inr past ↦
      let here : k ≡ m = omega arith in
      let P : ℕ → Type 0 = λ n. slice_get (map (λ n. string_bytes n) names) n ≡ Some name in
      let both : Some (string_bytes own) ≡ Some name = sym (name_there names own m inside is) ∙ subst P here at in
      other cc
]

pub no_more_names : (names : List (String Global)) (name : List ℕ) (m : ℕ) →
    ((k : ℕ) → k < m → slice_get (map (λ n. string_bytes n) names) k ≡ Some name → ⊥) → length names ≤ m
    → (k : ℕ) → slice_get (map (λ n. string_bytes n) names) k ≡ Some name → ⊥
no_more_names names name m before past k at = elim (cases_lt k m) [
  | inl below ↦ before k below at
  | inr beyond ↦
      let none : slice_get (map (λ n. string_bytes n) names) k ≡ None = slice_get_past (map (λ n. string_bytes n) names) k
      (let count = length-map names (λ n. string_bytes n) in omega (arith, count)) in
      let both : None ≡ Some name = sym none ∙ at in
      cc
]

-- ---- bytes
pub one_byte_more : (p : Contents) (state : Cpu) (a n : ℕ) (bytes after : List ℕ) (b k : ℕ) → length bytes ≡ k →
    ((i : ℕ) → i < k → ReadsByte p state (a + i) (slice_index bytes i))
    → ReadsByte p state (a + k) b → after ≡ bytes ++ b ∷ [] → (i : ℕ) → i < k + 1 → ReadsByte p state (a + i) (slice_index after i)
one_byte_more p state a n bytes after b k count each last is i less = elim (cases_lt i k) [
  | inl below ↦
      let same : get_or after i 0 ≡ get_or bytes i 0 = ap (λ (bs : List ℕ). get_or bs i 0) is ∙ get_or-append bytes (b ∷ []) 0 i (omega (arith, count)) in
      subst (ReadsByte p state (a + i)) (sym same) (each i below)
  | inr past ↦
      let here : k ≡ i = omega arith in
      let same : get_or after k 0 ≡ b = ap (λ (bs : List ℕ). get_or bs k 0) is ∙ get_or-append_right bytes (b ∷ []) k k 0 count
      (omega arith) ∙ ap (λ (d : ℕ). get_or (b ∷ []) d 0) (let none : k - k ≡ 0 = omega arith in none) in
      subst (λ (j : ℕ). ReadsByte p state (a + j) (get_or after j 0)) here (subst (ReadsByte p state (a + k)) (sym same) last)
]

pub none_weaker : (A B : Type 0) (o : Option ℕ) → IfNone o A → (A → B) → IfNone o B
none_weaker A B None h f = f h
none_weaker A B (Some n) h f = tt
