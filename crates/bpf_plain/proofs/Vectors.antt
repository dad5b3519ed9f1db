-- The vectors of arrays' bytes.
use Rattle.std.proofs.Common.{◌≡◌, ◌≢◌, ℕ, zero, suc, ◌<◌, List, [], ◌∷◌, ◌++◌, length, get_or, set, refl, ap, sym, ◌∙◌, arith}
use Rattle.std.specs.Prelude.{Vec}
use Rattle.std.specs.declared.alloc.Global.{Global}
use Rattle.std.proofs.lemmas.List.{get_or-set_same, get_or-set_other, length-map}
use Rattle.bpf_base.specs.Bytes.{with_part}
use Rattle.bpf_shared.specs.Contents.{bytes_of, bytes_of_all}
use Rattle.bpf_shared.specs.Shape.{Shape}
use Rattle.bpf_hash.specs.HashStore as hash
use Rattle.bpf_plain.specs.Private.Contents.{Contents, with_array, bytes_of as bytes_in}
use Rattle.bpf_plain.specs.Private.Places.{array_at, offset_at}

pub bytes_at : (vs : List (Vec ℕ Global)) (i : ℕ) (d : Vec ℕ Global) → i < length vs → get_or (bytes_of_all vs) i [] ≡ (get_or vs i d).items
bytes_at [] i d l = absurd (omega arith)
bytes_at (v ∷ vs) zero d l = refl
bytes_at (v ∷ vs) (suc i) d l = bytes_at vs i d (omega arith)

pub set_bytes : (vs : List (Vec ℕ Global)) (i : ℕ) (v : Vec ℕ Global) → bytes_of_all (set vs i v) ≡ set (bytes_of_all vs) i v.items
set_bytes [] i v = refl
set_bytes (w ∷ vs) zero v = refl
set_bytes (w ∷ vs) (suc i) v = ap (λ (l : List (List ℕ)). w.items ∷ l) (set_bytes vs i v)

pub count_all : (vs : List (Vec ℕ Global)) → length (bytes_of_all vs) ≡ length vs
count_all vs = length-map vs bytes_of

pub push_bytes : (vs : List (Vec ℕ Global)) (v : Vec ℕ Global) → bytes_of_all (vs ++ v ∷ []) ≡ bytes_of_all vs ++ v.items ∷ []
push_bytes [] v = refl
push_bytes (w ∷ vs) v = ap (λ (l : List (List ℕ)). w.items ∷ l) (push_bytes vs v)

-- a store of which one array's bytes are written
pub stored_is : (shape : Shape) (maps : hash.Contents) (items : List (Vec ℕ Global)) (p : Contents) → ◌≡◌ {A = Contents}
    (record { shape = shape; maps = maps; arrays = bytes_of_all items }) p
    → (a k o : ℕ) → k ≡ array_at a → o ≡ offset_at a → k < length items → (v w : Vec ℕ Global) → v ≡ get_or items k v → (now : List ℕ) → now
    ≡ v.items → (low : List ℕ) → w.items ≡ with_part now o low
    → ◌≡◌ {A = Contents} (record { shape = shape; maps = maps; arrays = bytes_of_all (set items k w) })
    (with_array p (array_at a) (with_part (bytes_in p (array_at a)) (offset_at a) low))
stored_is shape maps items p view a k o ek eo l v w ev now enow low ew =
    let here : now ≡ get_or (bytes_of_all items) k [] = enow ∙ (ap (λ (x : Vec ℕ Global). x.items) ev ∙ sym (bytes_at items k v l)) in
    let one : bytes_of_all (set items k w) ≡ set (bytes_of_all items) k (with_part (get_or (bytes_of_all items) k []) o low) =
    set_bytes items k w ∙ ap (set (bytes_of_all items) k) (ew ∙ ap (λ (bs : List ℕ). with_part bs o low) here)
    in
    let two : set (bytes_of_all items) k (with_part (get_or (bytes_of_all items) k []) o low) ≡ set (bytes_of_all items) (array_at a)
    (with_part (get_or (bytes_of_all items) (array_at a) []) (offset_at a) low) =
    ap (λ (x : ℕ). set (bytes_of_all items) x (with_part (get_or (bytes_of_all items) x []) o low)) ek
    ∙ ap (λ (y : ℕ). set (bytes_of_all items) (array_at a) (with_part (get_or (bytes_of_all items) (array_at a) []) y low)) eo
    in
    ap (λ (bs : List (List ℕ)). let x : Contents = record { shape = shape; maps = maps; arrays = bs } in x) (one ∙ two)
    ∙ ap (λ (q : Contents). with_array q (array_at a) (with_part (bytes_in q (array_at a)) (offset_at a) low)) view

-- one vector put in the place of another
pub bytes_put : (vs : List (Vec ℕ Global)) (i : ℕ) (v : Vec ℕ Global) → i < length vs → get_or (bytes_of_all (set vs i v)) i [] ≡ v.items
bytes_put vs i v l = let all = count_all vs in ap (λ (bs : List (List ℕ)). get_or bs i []) (set_bytes vs i v) ∙ get_or-set_same
    (bytes_of_all vs) i v.items [] (omega arith)

pub bytes_kept : (vs : List (Vec ℕ Global)) (i j : ℕ) (v : Vec ℕ Global) → j ≢ i → get_or (bytes_of_all (set vs i v)) j [] ≡ get_or (bytes_of_all vs) j []
bytes_kept vs i j v ne = ap (λ (bs : List (List ℕ)). get_or bs j []) (set_bytes vs i v) ∙ get_or-set_other (bytes_of_all vs) i j v.items [] ne
