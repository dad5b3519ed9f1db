-- Reading a whole file, line by line.
use Rattle.std.proofs.Common.{◌≡◌, ℕ, ◌+◌, ◌≤◌, List, length, Option, Some, None, Result, Ok, Err, refl, sym, subst, arith, ◌⊎◌, inl, inr}
use Rattle.std.specs.Option.{option_copied}
use Rattle.bpf_lines.specs.Lines.{lines_of, lines_behind, rest_size}
use Rattle.bpf_file.specs.declared.error.FileError.{FileError}
use Rattle.bpf_file.specs.declared.error.FileError.TheVariants.{Refused, OutOfMemory}
use Rattle.bpf_file.specs.File.{File}
use Rattle.bpf_file.specs.Parts.{Part, Between, nothing}
use Rattle.bpf_file.specs.Reading.{AreRead, IsRunFile, finished}
use Rattle.bpf_file.specs.Private.Drafts.{ReadsOnFrom}
use Rattle.bpf_file.specs.Private.Fits.{IsFit}
use Rattle.bpf_file.proofs.Fits.{fit_nothing}
use denote.Ref.{Bor}

-- so much is read: what the rest says is what the text says
pub record Progress (text : List ℕ) (line : ℕ) (p : Part) (rest : Option (List ℕ)) : Type 0 where
  pub reads : (o : Result File FileError) → AreRead line (Between p) (lines_behind rest) o → IsRunFile text o
  pub fit : IsFit p
  pub room : line + rest_size rest ≤ length text + 2

pub progress_start : (text : List ℕ) (p : Part) → p ≡ nothing → Progress text 1 p (Some text)
progress_start text p e = subst (λ q. Progress text 1 q (Some text)) (sym e) (record {
  reads = λ o h. h;
  fit = fit_nothing;
  room = omega arith;
})

pub progress_next : (text left : List ℕ) (line : ℕ) (p q : Part) (r : ℕ × Option (Bor (List ℕ))) → Progress text line p (Some left) →
    ReadsOnFrom line (Between p) (lines_of left) q (Ok r) → (IsFit p → IsFit q) → r.0 + rest_size (option_copied r.1) ≤ line + length left +
    1 → Progress text r.0 q (option_copied r.1)
progress_next text left line p q r g goes fit falls = record {
  reads = λ o h. g.reads o (goes o h);
  fit = fit g.fit;
  room = let room = g.room in omega (arith, room, falls);
}

pub progress_refused : (text left : List ℕ) (line : ℕ) (p q : Part) (e : FileError) → Progress text line p (Some left) → ReadsOnFrom line
    (Between p) (lines_of left) q (Err e) → (e ≡ OutOfMemory) ⊎ IsRunFile text (Err e)
progress_refused text left line p q OutOfMemory g goes = inl refl
progress_refused text left line p q (Refused n why) g goes = inr (g.reads (Err (Refused n why)) goes)

pub progress_end : (text : List ℕ) (line : ℕ) (p : Part) (o : Result File FileError) → Progress text line p None → finished (Between p) ≡ o → IsRunFile text o
progress_end text line p o g e = g.reads o (sym e)
