-- Cutting a run file off an input, line by line.
use Rattle.std.proofs.Common.{◌≡◌, ℕ, ◌+◌, true, false, List, [], ◌∷◌, ◌++◌, length, take, append_assoc, append-nil, Option, Some, None}
use Rattle.std.proofs.Common.{inl, inr, refl, sym, ap, subst, ◌∙◌, arith}
use Rattle.bpf_lines.specs.Lines.{lines_of, lines_behind, rest_size}
use Rattle.bpf_file.proofs.LinesLeft.{line_cut, line_size, Remains, remains_next, passed_text}
use Rattle.bpf_replies.specs.Script.{ends_file, NoneEnds, IsCut}

open_more : (ls : List (List ℕ)) (l : List ℕ) → NoneEnds ls → ends_file l ≡ false → NoneEnds (ls ++ l ∷ [])
open_more [] l a e = (e, tt)
open_more (m ∷ ls) l a e = (a.0, open_more ls l a.1 e)

-- some lines were looked at, and none ends the file
pub record Seen (text : List ℕ) (rest : Option (List ℕ)) (size : ℕ) : Type 0 where
  pub body : List (List ℕ)
  pub parts : lines_of text ≡ body ++ lines_behind rest
  pub before : NoneEnds body
  pub remains : Remains text body rest
  pub whole : size + rest_size rest ≡ length text + 1

pub seen_start : (text : List ℕ) → Seen text (Some text) 0
seen_start text = record {
  body = [];
  parts = refl;
  before = tt;
  remains = refl;
  whole = omega arith;
}

pub seen_next : (text left line : List ℕ) (behind : Option (List ℕ)) (size : ℕ) → Seen text (Some left) size → lines_of left ≡ line ∷
    lines_behind behind → ends_file line ≡ false → Seen text behind (size + (length line + 1))
seen_next text left line behind size s e unended =
    let sized : length left ≡ length line + rest_size behind = line_size left line behind e in
    record {
      body = s.body ++ line ∷ [];
      parts = s.parts ∙ ap (λ ls. s.body ++ ls) e ∙ sym (append_assoc s.body (line ∷ []) (lines_behind behind));
      before = open_more s.body line s.before unended;
      remains = remains_next text left line s.body behind s.remains (line_cut left line behind e);
      whole = omega (arith, s.whole, sized);
    }

pub seen_cut : (left line : List ℕ) (behind : Option (List ℕ)) (text : List ℕ) (size : ℕ) (file : List ℕ) → Seen text (Some left) size →
    lines_of left ≡ line ∷ lines_behind behind → ends_file line ≡ true → file ≡ take size text → IsCut text file (lines_behind behind)
seen_cut left line behind text size file s e ended t =
    let sized : length left ≡ length line + rest_size behind = line_size left line behind e in
    inl (
      s.body,
      line,
      s.parts ∙ ap (λ ls. s.body ++ ls) e,
      s.before,
      ended,
      t ∙ passed_text text left s.body size s.remains (omega (arith, s.whole, sized)),
    )

pub seen_none : (text : List ℕ) (size : ℕ) → Seen text None size → IsCut text text []
seen_none text size s = inr (subst NoneEnds (sym (s.parts ∙ append-nil s.body)) s.before, refl, refl)
