-- Cutting a program's assembly off a text, line by line.
use Rattle.std.proofs.Common.{◌≡◌, ℕ, ◌+◌, ◌≤◌, true, false, List, [], ◌∷◌, ◌++◌, length, length-append, take, append_assoc, append-nil}
use Rattle.std.proofs.Common.{Option, Some, None, refl, sym, ap, subst, ◌∙◌, arith}
use Rattle.std.specs.Option.{option_copied}
use Rattle.bpf_lines.specs.Lines.{lines_of, lines_behind, rest_size}
use Rattle.bpf_file.specs.declared.assembly.Assembly.{Assembly}
use Rattle.bpf_file.specs.Programs.{text_of_lines}
use Rattle.bpf_file.specs.Reading.{is_end}
use Rattle.bpf_file.proofs.LinesLeft.{line_cut, line_size, Remains, remains_next, passed_size, passed_text}
use Rattle.bpf_file.specs.Private.Cuts.{AreOpen, IsProgramCut}

open_more : (ls : List (List ℕ)) (l : List ℕ) → AreOpen ls → is_end l ≡ false → AreOpen (ls ++ l ∷ [])
open_more [] l a e = (e, tt)
open_more (m ∷ ls) l a e = (a.0, open_more ls l a.1 e)

-- some lines were looked at, and none ends a program
pub record Seen (text : List ℕ) (rest : Option (List ℕ)) (len count : ℕ) : Type 0 where
  pub body : List (List ℕ)
  pub parts : lines_of text ≡ body ++ lines_behind rest
  pub before : AreOpen body
  pub counted : count ≡ length body
  pub remains : Remains text body rest
  pub size : len + rest_size rest ≡ length text + 1
  pub few : count ≤ len

pub seen_start : (text : List ℕ) → Seen text (Some text) 0 0
seen_start text = record {
  body = [];
  parts = refl;
  before = tt;
  counted = refl;
  remains = refl;
  size = omega arith;
  few = omega arith;
}

pub seen_next : (text left line : List ℕ) (behind : Option (List ℕ)) (len count : ℕ) → Seen text (Some left) len count → lines_of left ≡
    line ∷ lines_behind behind → is_end line ≡ false → Seen text behind (len + (length line + 1)) (count + 1)
seen_next text left line behind len count s e unended =
    let sized : length left ≡ length line + rest_size behind = line_size left line behind e in
    record {
      body = s.body ++ line ∷ [];
      parts = s.parts ∙ ap (λ ls. s.body ++ ls) e ∙ sym (append_assoc s.body (line ∷ []) (lines_behind behind));
      before = open_more s.body line s.before unended;
      counted = let h = length-append s.body (line ∷ []) in omega (arith, h, s.counted);
      remains = remains_next text left line s.body behind s.remains (line_cut left line behind e);
      size = omega (arith, s.size, sized);
      few = omega (arith, s.few);
    }

pub seen_cut : (left line : List ℕ) (behind : Option (List ℕ)) (text : List ℕ) (len count : ℕ) (a : Assembly) → Seen text (Some left) len
    count → lines_of left ≡ line ∷ lines_behind behind → is_end line ≡ true → a.text.now ≡ take len text → a.lines ≡ count → option_copied
    a.rest ≡ behind → IsProgramCut text a
seen_cut left line behind text len count a s e ended t n r =
    let sized : length left ≡ length line + rest_size behind = line_size left line behind e in
    let body : a.text.now ≡ text_of_lines s.body = t ∙ passed_text text left s.body len s.remains (omega (arith, s.size, sized)) in
    let P : Option (List ℕ) → Type 0 = λ b. lines_of text ≡ s.body ++ line ∷ lines_behind b in
    let Q : Option (List ℕ) → Type 0 = λ b. a.lines + rest_size b ≤ length text in
    record {
      body = s.body;
      last = line;
      parts = subst P (sym r) (s.parts ∙ ap (λ ls. s.body ++ ls) e);
      assembly = body;
      short = let now : length a.text.now ≡ length (text_of_lines s.body) = ap length body in omega
          (arith, now, passed_size text left s.body len s.remains (omega (arith, s.size, sized)), s.size, sized);
      count = n ∙ s.counted;
      before = s.before;
      ended = ended;
      size = subst Q (sym r) (omega (arith, s.size, s.few, sized, n));
    }

pub seen_none : (text : List ℕ) (len count : ℕ) → Seen text None len count → AreOpen (lines_of text)
seen_none text len count s = subst AreOpen (sym (s.parts ∙ append-nil s.body)) s.before
