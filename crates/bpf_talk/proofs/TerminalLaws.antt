-- Calls of a terminal that only write.
use Rattle.std.proofs.Common.{◌≡◌, ◌∙◌, ℕ, ◌+◌, ◌-◌, ◌≤◌, true, List, [], ◌∷◌, ◌++◌, drop, length, take, ap, refl, sym, subst, append_assoc}
use Rattle.std.proofs.Common.{append-nil, arith, length-drop}
use Rattle.std.proofs.lemmas.List.{take_all, take-append-drop}
use Rattle.std.proofs.Math.Seq.{take-add, take-append_seam}
use Rattle.bpf_talk.specs.Terminal.{Call, Read, Wrote, Flushed, AreWrites, IsPut, before_reads, bytes_read, bytes_written, is_ended, is_flushed}

pub writes_more : (more calls : List Call) → AreWrites more → AreWrites calls → AreWrites (more ++ calls)
writes_more [] calls p q = q
writes_more (Read bytes ∷ more) calls p q = absurd p
writes_more (Wrote bytes ∷ more) calls p q = writes_more more calls p q
writes_more (Flushed ∷ more) calls p q = writes_more more calls p q

pub written_more : (more calls : List Call) → bytes_written (more ++ calls) ≡ bytes_written calls ++ bytes_written more
written_more [] calls = sym (append-nil (bytes_written calls))
written_more (Read bytes ∷ more) calls = written_more more calls
written_more (Wrote bytes ∷ more) calls = ap (λ (t : List ℕ). t ++ bytes) (written_more more calls) ∙ append_assoc (bytes_written calls)
    (bytes_written more) bytes
written_more (Flushed ∷ more) calls = written_more more calls

pub read_same : (more calls : List Call) → AreWrites more → bytes_read (more ++ calls) ≡ bytes_read calls
read_same [] calls p = refl
read_same (Read bytes ∷ more) calls p = absurd p
read_same (Wrote bytes ∷ more) calls p = read_same more calls p
read_same (Flushed ∷ more) calls p = read_same more calls p

pub reads_same : (more calls : List Call) → AreWrites more → before_reads (more ++ calls) ≡ before_reads calls
reads_same [] calls p = refl
reads_same (Read bytes ∷ more) calls p = absurd p
reads_same (Wrote bytes ∷ more) calls p = reads_same more calls p
reads_same (Flushed ∷ more) calls p = reads_same more calls p

pub ended_same : (more calls : List Call) → AreWrites more → is_ended (more ++ calls) ≡ is_ended calls
ended_same [] calls p = refl
ended_same (Read bytes ∷ more) calls p = absurd p
ended_same (Wrote bytes ∷ more) calls p = ended_same more calls p
ended_same (Flushed ∷ more) calls p = ended_same more calls p

pub flushed_more : (more calls : List Call) → is_flushed more ≡ true → is_flushed calls ≡ true → is_flushed (more ++ calls) ≡ true
flushed_more [] calls p q = q
flushed_more (Read bytes ∷ more) calls p q = flushed_more more calls p q
flushed_more (Wrote bytes ∷ more) calls p q = cc
flushed_more (Flushed ∷ more) calls p q = refl

-- one more write, of some of the bytes after the first n
pub put_some : (bytes : List ℕ) (n more : ℕ) (calls : List Call) → IsPut (take n bytes) calls
    → IsPut (take (n + more) bytes) (Wrote (take more (take (length bytes - n) (drop n bytes))) ∷ calls)
put_some bytes n more calls p = (
  p.0,
  ap (λ (t : List ℕ). t ++ take more (take (length bytes - n) (drop n bytes))) p.1
      ∙ ap (λ (t : List ℕ). take n bytes ++ take more t) (take_all (length bytes - n) (drop n bytes) (omega (arith, length-drop n bytes)))
      ∙ sym (take-add n more bytes),
)

pub put_whole : (bytes : List ℕ) (n : ℕ) (calls : List Call) → length bytes ≤ n → IsPut (take n bytes) calls → IsPut bytes calls
put_whole bytes n calls l p = (p.0, p.1 ∙ take_all n bytes l)

pub put_as : (bytes : List ℕ) (calls : List Call) → IsPut bytes calls → IsPut (take (length bytes) bytes) calls
put_as bytes calls p = (p.0, p.1 ∙ sym (take_all (length bytes) bytes (omega arith)))

-- texts after each other
pub put_next : (before text : List ℕ) (calls more : List Call) → IsPut before calls → IsPut text more → IsPut (before ++ text) (more ++ calls)
put_next before text calls more p q = (
  writes_more more calls q.0 p.0,
  written_more more calls ∙ ap (λ (t : List ℕ). t ++ bytes_written more) p.1 ∙ ap (λ (t : List ℕ). before ++ t) q.1,
)

-- a beginning is one of all that it begins
pub begins : (before text rest all : List ℕ) (k : ℕ) → all ≡ before ++ (text ++ rest) → before ++ take k text ≡ take (length (before ++ take k text)) all
begins before text rest all k is =
    let begun = before ++ take k text in
    let parts : all ≡ begun ++ (drop k text ++ rest) =
    is ∙ ap (λ (t : List ℕ). before ++ (t ++ rest)) (sym (take-append-drop k text)) ∙ ap (λ (t : List ℕ). before ++ t)
    (append_assoc (take k text) (drop k text) rest) ∙ sym (append_assoc before (take k text) (drop k text ++ rest)) in
    sym (ap (take (length begun)) parts ∙ take-append_seam begun (drop k text ++ rest))

pub put_begun : (before text rest all : List ℕ) (k : ℕ) (calls more : List Call) → all ≡ before ++ (text ++ rest) → IsPut before calls →
    IsPut (take k text) more
    → (n : ℕ) × IsPut (take n all) (more ++ calls)
put_begun before text rest all k calls more is p q = (
  length (before ++ take k text),
  subst (λ (t : List ℕ). IsPut t (more ++ calls)) (begins before text rest all k is)
      (put_next before (take k text) calls more p q),
)
