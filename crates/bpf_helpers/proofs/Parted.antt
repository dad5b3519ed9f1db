-- A value that is copied part by part.
use Rattle.std.proofs.Common.{◌≡◌, ℕ, suc, ◌+◌, ◌-◌, ◌/◌, ◌%◌, ◌<◌, ◌≤◌, nat_lt, true, false, List, [], ◌∷◌, ◌++◌, length, take, drop, ◌⊎◌}
use Rattle.std.proofs.Common.{refl, sym, ap, subst, ◌∙◌, arith, ◌==◌, if◌then◌else◌, append_assoc, length-append, length-drop}
use Rattle.std.specs.Prelude.{replicate}
use Rattle.std.proofs.lemmas.Bool.Decides.{nat_tests}
use Rattle.std.proofs.lemmas.List.{append-nil, length-take-le, take_all, take-append-drop}
use Rattle.std.proofs.Math.Seq.{take-append-add, take-append_seam, drop-append_seam}
use Rattle.bpf_base.specs.Bytes.{little_endian, part}
use Rattle.bpf_shared.specs.Access.{bytes_in}
use Rattle.bpf_shared.specs.declared.events.Event.{Event}
use Rattle.bpf_shared.specs.declared.events.Event.TheVariants.{Store}
use Rattle.bpf_shared.specs.declared.events.Size.{Size}
use Rattle.bpf_shared.specs.declared.events.Size.TheVariants.{Byte, Half, Word, Double}
use Rattle.bpf_helpers.specs.Arrays.{copies, parts_of}
use Rattle.bpf_shared.specs.Shape.{Shape}
use Rattle.bpf_shared.specs.declared.events.Span.{Span}
use Rattle.bpf_helpers.specs.Arrays.{IsInArray}
use Rattle.bpf_helpers.specs.Held.{reaches}
use Rattle.bpf_helpers.specs.Reads.{AreReached, loads, no_loads}
use Rattle.bpf_helpers.specs.Private.Parts.{IsNextPart}

-- ---- which parts come
pub part_fits : (size : Size) (rest : ℕ) → IsNextPart rest size → (bytes_in size ≤ rest) × (1 ≤ bytes_in size)
part_fits Byte rest is = (omega arith, omega arith)
part_fits Half rest is = (is.0, omega arith)
part_fits Word rest is = (is.0, omega arith)
part_fits Double rest is = (is, omega arith)

abbrev parts : ℕ → ℕ → ℕ → ℕ → List Size
parts d x y z =
    replicate d Double
    ++ (if nat_lt x 4 then [] else Word ∷ [])
    ++ (if nat_lt y 2 then [] else Half ∷ [])
    ++ (if z == 0 then [] else Byte ∷ [])

listed : (n d x y z : ℕ) → n / 8 ≡ d → n % 8 ≡ x → n % 4 ≡ y → n % 2 ≡ z → parts_of n ≡ parts d x y z
listed n d x y z a b c e =
    ap (λ (k : ℕ). parts k (n % 8) (n % 4) (n % 2)) a
    ∙ (ap (λ (k : ℕ). parts d k (n % 4) (n % 2)) b ∙ (ap (λ (k : ℕ). parts d x k (n % 2)) c ∙ ap (λ (k : ℕ). parts d x y k) e))

pub next_parts : (size : Size) (rest : ℕ) → IsNextPart rest size → parts_of rest ≡ size ∷ parts_of (rest - bytes_in size)
next_parts Double rest is =
    let n = rest - 8 in
    listed rest (suc (n / 8)) (n % 8) (n % 4) (n % 2) (omega arith) (omega arith) (omega arith) (omega arith)
next_parts Word rest is =
    let n = rest - 4 in
    let x : rest % 8 ≡ rest = omega arith in
    let above : nat_lt (rest % 8) 4 ≡ false = let l = is.0 in let m = is.1 in grind (arith, nat_tests) in
    let below : nat_lt (n % 8) 4 ≡ true = let l = is.0 in let m = is.1 in let e : n % 8 < 4 = omega arith in grind (arith, nat_tests) in
    let none : rest / 8 ≡ 0 = omega arith in
    let none' : n / 8 ≡ 0 = omega arith in
    let y : rest % 4 ≡ n % 4 = omega arith in
    let z : rest % 2 ≡ n % 2 = omega arith in
    rw (none, none', above, below, y, z) refl
next_parts Half rest is =
    let n = rest - 2 in
    let low : nat_lt (rest % 8) 4 ≡ true = let e : rest % 8 < 4 = (let l = is.1 in omega arith) in grind (arith, nat_tests) in
    let low' : nat_lt (n % 8) 4 ≡ true = let e : n % 8 < 4 = (let l = is.1 in omega arith) in grind (arith, nat_tests) in
    let above : nat_lt (rest % 4) 2 ≡ false = let e : 2 ≤ rest % 4 = (let l = is.1 in let m = is.0 in omega arith) in grind (arith, nat_tests) in
    let below : nat_lt (n % 4) 2 ≡ true = let e : n % 4 < 2 = (let l = is.1 in let m = is.0 in omega arith) in grind (arith, nat_tests) in
    let none : rest / 8 ≡ 0 = (let l = is.1 in omega arith) in
    let none' : n / 8 ≡ 0 = (let l = is.1 in omega arith) in
    let z : rest % 2 ≡ n % 2 = (let l = is.1 in let m = is.0 in omega arith) in
    rw (none, none', low, low', above, below, z) refl
next_parts Byte rest is = ap parts_of is ∙ ap (λ (n : ℕ). Byte ∷ parts_of (n - 1)) (sym is)

-- ---- how far it has come
-- so many bytes are copied and so many are left: the next part's place is a multiple of its size
pub record IsCutAt (done rest : ℕ) : Type 0 where
  pub eight : 8 ≤ rest → done % 8 ≡ 0
  pub four : 4 ≤ rest → done % 4 ≡ 0
  pub two : 2 ≤ rest → done % 2 ≡ 0

pub cut_start : (rest : ℕ) → IsCutAt 0 rest
cut_start rest = record { eight = λ l. refl; four = λ l. refl; two = λ l. refl }

pub cut_even : (size : Size) (done rest : ℕ) → IsCutAt done rest → IsNextPart rest size → done % bytes_in size ≡ 0
cut_even Byte done rest cut is = omega arith
cut_even Half done rest cut is = cut.two is.0
cut_even Word done rest cut is = cut.four is.0
cut_even Double done rest cut is = cut.eight is

pub cut_next : (size : Size) (done rest left : ℕ) → IsCutAt done rest → IsNextPart rest size → left ≡ rest - bytes_in size → IsCutAt (done + bytes_in size) left
cut_next Byte done rest left cut is e = record { eight = λ l. absurd (omega arith); four = λ l. absurd (omega arith); two = λ l. absurd (omega arith) }
cut_next Half done rest left cut is e =
    let a = is.0 in let b = is.1 in
    record { eight = λ l. absurd (omega arith); four = λ l. absurd (omega arith); two = λ l. absurd (omega arith) }
cut_next Word done rest left cut is e =
    let a = is.0 in let b = is.1 in
    let even = cut.four is.0 in
    record { eight = λ l. absurd (omega arith); four = λ l. absurd (omega arith); two = λ l. omega arith }
cut_next Double done rest left cut is e =
    let even = cut.eight is in
    record { eight = λ l. omega arith; four = λ l. omega arith; two = λ l. omega arith }

-- ---- the events of it
-- one part, and what comes after it
pub copied_next : (reading : ℕ → List ℕ → List Event) (from to : ℕ) (size : Size) (sizes : List Size) (bytes others : List ℕ) → length bytes ≡ bytes_in size
    → copies reading from to (size ∷ sizes) (bytes ++ others) ≡ (reading from bytes ++ Store to size (little_endian bytes) ∷ []) ++ copies
    reading (from + bytes_in size) (to + bytes_in size) sizes others
copied_next reading from to size sizes bytes others e =
    let front : take (bytes_in size) (bytes ++ others) ≡ bytes = ap (λ (n : ℕ). take n (bytes ++ others)) (sym e) ∙ take-append_seam bytes others in
    let back : drop (bytes_in size) (bytes ++ others) ≡ others = ap (λ (n : ℕ). drop n (bytes ++ others)) (sym e) ∙ drop-append_seam bytes others in
    let tail = copies reading (from + bytes_in size) (to + bytes_in size) sizes in
    ap (λ (l : List ℕ). reading from l ++ Store to size (little_endian l) ∷ tail (drop (bytes_in size) (bytes ++ others))) front
    ∙ (ap (λ (l : List ℕ). reading from bytes ++ Store to size (little_endian bytes) ∷ tail l) back
    ∙ sym (append_assoc (reading from bytes) (Store to size (little_endian bytes) ∷ []) (tail others)))

-- these events copy these bytes of n, and what copies the others comes after them
abbrev pub Begins : (ℕ → List ℕ → List Event) → ℕ → ℕ → ℕ → List ℕ → List Event → Type 0
Begins reading from to n bytes events = (others : List ℕ)
    → copies reading from to (parts_of n) (bytes ++ others)
    ≡ events ++ copies reading (from + length bytes) (to + length bytes) (parts_of (n - length bytes)) others

pub begins_nothing : (reading : ℕ → List ℕ → List Event) (from to n : ℕ) → Begins reading from to n [] []
begins_nothing reading from to n others =
    let a : from ≡ from + 0 = omega arith in
    let b : to ≡ to + 0 = omega arith in
    let c : n ≡ n - 0 = omega arith in
    ap (λ (x : ℕ). copies reading x to (parts_of n) others) a
    ∙ (ap (λ (x : ℕ). copies reading (from + 0) x (parts_of n) others) b ∙ ap (λ (x : ℕ). copies reading (from + 0) (to + 0) (parts_of x) others) c)

pub begins_more : (reading : ℕ → List ℕ → List Event) (from to n done : ℕ) (size : Size) (bytes more : List ℕ) (events : List Event) →
    length bytes ≡ done → Begins reading from to n bytes events
    → IsNextPart (n - done) size → length more ≡ bytes_in size
    → Begins reading from to n (bytes ++ more) (events ++ (reading (from + done) more ++ Store (to + done) size (little_endian more) ∷ []))
begins_more reading from to n done size bytes more events at begins is long others =
    let k = bytes_in size in
    let f = from + length bytes in
    let t = to + length bytes in
    let size_all : length (bytes ++ more) ≡ length bytes + k = length-append bytes more ∙ ap (λ (x : ℕ). length bytes + x) long in
    let whole : copies reading from to (parts_of n) ((bytes ++ more) ++ others) ≡ events ++ copies reading f t (parts_of (n - length bytes)) (more ++ others) =
    ap (copies reading from to (parts_of n)) (append_assoc bytes more others) ∙ begins (more ++ others) in
    let is' : IsNextPart (n - length bytes) size = subst (λ (x : ℕ). IsNextPart (n - x) size) (sym at) is in
    let cut : copies reading f t (parts_of (n - length bytes)) (more ++ others) ≡ (reading f more ++ Store t size (little_endian more) ∷ [])
    ++ copies reading (f + k) (t + k) (parts_of (n - length bytes - k)) others =
    ap (λ (l : List Size). copies reading f t l (more ++ others)) (next_parts size (n - length bytes) is') ∙ copied_next reading f t size
    (parts_of (n - length bytes - k)) more others long in
    let one : reading f more ++ Store t size (little_endian more) ∷ [] ≡ reading (from + done) more ++ Store (to + done) size (little_endian more) ∷ [] =
    ap (λ (x : ℕ). reading (from + x) more ++ Store (to + x) size (little_endian more) ∷ []) at in
    let a : f + k ≡ from + length (bytes ++ more) = omega arith in
    let b : t + k ≡ to + length (bytes ++ more) = omega arith in
    let c : n - length bytes - k ≡ n - length (bytes ++ more) = omega arith in
    let rest : copies reading (f + k) (t + k) (parts_of (n - length bytes - k)) others ≡ copies reading (from + length (bytes ++ more))
    (to + length (bytes ++ more)) (parts_of (n - length (bytes ++ more))) others =
    ap (λ (x : ℕ). copies reading x (t + k) (parts_of (n - length bytes - k)) others) a
    ∙ (ap (λ (x : ℕ). copies reading (from + length (bytes ++ more)) x (parts_of (n - length bytes - k)) others) b ∙ ap
    (λ (x : ℕ). copies reading (from + length (bytes ++ more)) (to + length (bytes ++ more)) (parts_of x) others) c) in
    whole
    ∙ (ap (λ (l : List Event). events ++ l) cut
    ∙ (ap (λ (l : List Event). events ++ (l ++ copies reading (f + k) (t + k) (parts_of (n - length bytes - k)) others)) one
    ∙ (ap (λ (l : List Event). events ++ ((reading (from + done) more ++ Store (to + done) size (little_endian more) ∷ []) ++ l)) rest
    ∙ sym (append_assoc events (reading (from + done) more ++ Store (to + done) size (little_endian more) ∷ [])
    (copies reading (from + length (bytes ++ more)) (to + length (bytes ++ more)) (parts_of (n - length (bytes ++ more))) others)))))

pub begins_all : (reading : ℕ → List ℕ → List Event) (from to n : ℕ) (bytes : List ℕ) (events : List Event) → length bytes ≡ n → Begins
    reading from to n bytes events → events ≡ copies reading from to (parts_of n) bytes
begins_all reading from to n bytes events e begins =
    let none : n - length bytes ≡ 0 = omega arith in
    let last : copies reading (from + length bytes) (to + length bytes) (parts_of (n - length bytes)) [] ≡ [] = ap
    (λ (x : ℕ). copies reading (from + length bytes) (to + length bytes) (parts_of x) []) none in
    sym (ap (copies reading from to (parts_of n)) (sym (append-nil bytes)) ∙ (begins [] ∙ (ap (λ (l : List Event). events ++ l) last ∙ append-nil events)))

-- ---- one turn of the loops
take_part : (xs : List ℕ) (a m : ℕ) → a ≤ length xs → take (a + m) xs ≡ take a xs ++ take m (drop a xs)
take_part xs a m l =
    ap (take (a + m)) (sym (take-append-drop a xs))
    ∙ (ap (λ (n : ℕ). take (n + m) (take a xs ++ drop a xs)) (sym (length-take-le a xs l)) ∙ take-append-add (take a xs) (drop a xs) m)

pub own_more : (from to : ℕ) (bytes : List ℕ) (done k : ℕ) (size : Size) (word : ℕ) (events : List Event) → k ≡ bytes_in size → done ≤
    length bytes → IsNextPart (length bytes - done) size
    → word ≡ little_endian (part bytes done (bytes_in size)) → Begins no_loads from to (length bytes) (take done bytes) events
    → Begins no_loads from to (length bytes) (take (done + k) bytes) (events ++ Store (to + done) size word ∷ [])
own_more from to bytes done k size word events e within is number begins =
    let fits = part_fits size (length bytes - done) is in
    let more = part bytes done (bytes_in size) in
    let rest : bytes_in size ≤ length (drop done bytes) = omega (arith, length-drop done bytes, fits.0) in
    let long : length more ≡ bytes_in size = length-take-le (bytes_in size) (drop done bytes) rest in
    let next = begins_more no_loads from to (length bytes) done size (take done bytes) more events (length-take-le done bytes within) begins is long in
    let whole : take done bytes ++ more ≡ take (done + k) bytes = sym (take_part bytes done (bytes_in size) within) ∙ ap
    (λ (n : ℕ). take (done + n) bytes) (sym e) in
    let P : List ℕ → Type 0 = λ l. Begins no_loads from to (length bytes) l (events ++ Store (to + done) size (little_endian more) ∷ []) in
    let Q : ℕ → Type 0 = λ w. Begins no_loads from to (length bytes) (take (done + k) bytes) (events ++ Store (to + done) size w ∷ []) in
    subst Q (sym number) (subst P whole next)

pub shared_more : (from to n done : ℕ) (size : Size) (word : ℕ) (bytes more : List ℕ) (events : List Event) → length bytes ≡ done →
    IsNextPart (n - done) size → length more ≡ bytes_in size
    → word ≡ little_endian (part more 0 (bytes_in size)) → Begins loads from to n bytes events
    → Begins loads from to n (bytes ++ more) (events ++ (loads (from + done) more ++ Store (to + done) size word ∷ []))
shared_more from to n done size word bytes more events at is long number begins =
    let next = begins_more loads from to n done size bytes more events at begins is long in
    let all : part more 0 (bytes_in size) ≡ more = take_all (bytes_in size) more (omega arith) in
    let Q : ℕ → Type 0 = λ w. Begins loads from to n (bytes ++ more) (events ++ (loads (from + done) more ++ Store (to + done) size w ∷ [])) in
    subst Q (sym (number ∙ ap little_endian all)) next

pub reached_part : (h : Shape) (held : List Span) (from n done k : ℕ) → AreReached h held from n → done + k ≤ n → AreReached h held (from + done) k
reached_part h held from n done k are fits j l =
    let P : ℕ → Type 0 = λ x. (reaches held x ≡ true) ⊎ IsInArray h x 1 in
    let same : from + (done + j) ≡ from + done + j = omega arith in
    subst P same (are (done + j) (omega arith))
