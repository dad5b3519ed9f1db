-- One more instruction of a program.
use Rattle.std.proofs.Common.{◌≡◌, ℕ, ◌+◌, ◌*◌, ◌/◌, ◌%◌, ◌<◌, ◌≤◌, Bool, true, false, cond, ltb, List, [], ◌∷◌, ◌++◌, length, drop, Some}
use Rattle.std.proofs.Common.{None, refl, sym, ap, subst, ◌∙◌, arith, append_assoc}
use Rattle.std.proofs.lemmas.Bool.{ltb-false}
use Rattle.std.proofs.lemmas.List.{drop-drop, length-drop, append-nil}
use Rattle.bpf_insn.specs.declared.instruction.Insn.{Insn}
use Rattle.bpf_insn.specs.declared.word.Window.{Window}
use Rattle.bpf_insn.specs.declared.fault.Fault.{Fault}
use Rattle.bpf_insn.specs.declared.fault.Fault.TheVariants.{UnknownOpcode, ReservedNotZero, HalfWide, BadRegister}
use Rattle.bpf_insn.specs.declared.error.InsnError.{InsnError}
use Rattle.bpf_insn.specs.Table.{row_of, word_count, words}
use Rattle.bpf_insn.specs.declared.row.Encoding.{Encoding}
use Rattle.bpf_insn.specs.declared.row.Encoding.TheVariants.{Basic, Wide}
use Rattle.bpf_insn.specs.Encoding.{word_at, window_at, IsFollowed, BeginsWith, IsEncodedAs}
use Rattle.bpf_insn.specs.Refusal.{IsFirstAmiss, IsWrong, IsSized, IsRefused, error_at}
use Rattle.bpf_insn.specs.Private.Reading.{IsWord, IsRefusedAt}
use Rattle.bpf_insn.proofs.Law.{one_written, none_amiss}

-- ---- at the front of some bytes

-- an instruction of two words has them both
long_by : (s : Encoding) (bytes : List ℕ) (b : Bool) → ltb (length bytes) 16 ≡ b → 8 ≤ length bytes → IsFollowed s
    (cond b None (Some (word_at (drop 8 bytes)))) → 8 * word_count s ≤ length bytes
long_by Basic bytes b e h n = omega arith
long_by (Wide f) bytes true e h n = absurd cc
long_by (Wide f) bytes false e h n = let long = ltb-false _ _ e in omega (arith, long)

pub begins : (i : Insn) (bytes : List ℕ) → 8 ≤ length bytes → IsWord i (window_at bytes) → BeginsWith i bytes
begins i bytes l m = record { long = long_by (row_of i).encoding bytes (ltb (length bytes) 16) refl l m.written.second; written = m.written; fits = m.fits }

pub one_front : (i j : Insn) (bytes : List ℕ) → BeginsWith i bytes → BeginsWith j bytes → i ≡ j
one_front i j bytes b c = one_written i j (window_at bytes) b.written b.fits c.written c.fits

pub none_wrong : (f : Fault) (j : Insn) (bytes : List ℕ) → IsFirstAmiss (window_at bytes) f → ¬ BeginsWith j bytes
none_wrong f j bytes a b = none_amiss f j (window_at bytes) b.written a.applies

pub words_some : (s : Encoding) → 0 < word_count s
words_some Basic = omega arith
words_some (Wide f) = omega arith

no_front : (rest : List ℕ) (more : List Insn) (f : Fault) → 8 ≤ length rest → IsFirstAmiss (window_at rest) f → IsEncodedAs more rest → ⊥
no_front rest [] f l e c = let z : length rest ≡ 0 = ap length c in absurd (omega arith)
no_front rest (j ∷ js) f l e c = none_wrong f j rest e c.0

-- ---- after some instructions

pub record Progress (bytes rest : List ℕ) (insns : List Insn) (pc : ℕ) : Type 0 where
  pub position : 8 * pc + length rest ≡ length bytes
  pub whole : length rest % 8 ≡ 0
  pub part : rest ≡ drop (8 * pc) bytes
  pub before : (is : List Insn) → IsEncodedAs is rest → IsEncodedAs (insns ++ is) bytes
  pub only : (is : List Insn) → IsEncodedAs is bytes → (more : List Insn) × (is ≡ insns ++ more) × IsEncodedAs more rest
  pub wrong : (q : ℕ) (f : Fault) → IsWrong q f rest → IsWrong (pc + q) f bytes

start : (bytes : List ℕ) → length bytes % 8 ≡ 0 → Progress bytes bytes [] 0
start bytes h = record {
  position = omega arith;
  whole = h;
  part = refl;
  before = λ is c. c;
  only = λ is c. (is, refl, c);
  wrong = λ q f c. let e : q ≡ 0 + q = omega arith in let P = λ (n : ℕ). IsWrong n f bytes in subst P e c;
}

-- what begins with this instruction is encoded as it and some more
rest_only : (i : Insn) (is : List Insn) (rest : List ℕ) → BeginsWith i rest → 8 ≤ length rest → IsEncodedAs is rest → (more : List Insn) ×
    (is ≡ i ∷ more) × IsEncodedAs more (drop (8 * words i) rest)
rest_only i [] rest b l c = absurd (let e : length rest ≡ 0 = ap length c in omega arith)
rest_only i (j ∷ js) rest b l c =
    let e : j ≡ i = one_front j i rest c.0 b in
    (js, ap (λ (x : Insn). x ∷ js) e, subst (λ (x : Insn). IsEncodedAs js (drop (8 * words x) rest)) e c.1)

step : (bytes rest : List ℕ) (insns : List Insn) (pc : ℕ) (i : Insn) → Progress bytes rest insns pc → BeginsWith i rest → 8 ≤ length rest →
    Progress bytes (drop (8 * words i) rest) (insns ++ i ∷ []) (pc + words i)
step bytes rest insns pc i p b l = record {
  position = let long = b.long in let at = p.position in omega (arith, length-drop (8 * words i) rest);
  whole = let long = b.long in let w = p.whole in omega (arith, length-drop (8 * words i) rest);
  part = ap (λ (x : List ℕ). drop (8 * words i) x) p.part ∙ drop-drop (8 * words i) (8 * pc) bytes ∙ ap (λ (n : ℕ). drop n bytes) (omega arith);
  before = λ is c. rw append_assoc (p.before (i ∷ is) (b, c));
  only = λ is c.
      let m = p.only is c in
      let n = rest_only i m.0 rest b l m.2 in
      (n.0, m.1 ∙ ap (λ (x : List Insn). insns ++ x) n.1 ∙ sym (append_assoc insns (i ∷ []) n.0), n.2);
  wrong = λ q f c. let e : pc + (words i + q) ≡ pc + words i + q = omega arith in
      let P = λ (n : ℕ). IsWrong n f bytes in subst P e (p.wrong (words i + q) f (i ∷ c.0, (q, refl, b, c.1)));
}

none_more : (more : List Insn) → IsEncodedAs more [] → more ≡ []
none_more [] c = refl
none_more (j ∷ js) c = let long = c.0.long in let some = words_some (row_of j).encoding in absurd (omega arith)

none_left : (bytes rest : List ℕ) (insns is : List Insn) (pc : ℕ) → Progress bytes rest insns pc → rest ≡ [] → IsEncodedAs is bytes → insns ≡ is
none_left bytes rest insns is pc p r c =
    let m = p.only is c in
    let e = none_more m.0 (subst (IsEncodedAs m.0) r m.2) in
    sym (m.1 ∙ ap (λ (x : List Insn). insns ++ x) e ∙ append-nil insns)

all_read : (bytes rest : List ℕ) (insns : List Insn) (pc : ℕ) → Progress bytes rest insns pc → rest ≡ [] → IsEncodedAs insns bytes
all_read bytes rest insns pc p r = let P = λ (x : List Insn). IsEncodedAs x bytes in subst P (append-nil insns) (p.before [] r)

-- where something is wrong, the bytes encode nothing
none_at_all : (bytes rest : List ℕ) (insns is : List Insn) (pc : ℕ) (f : Fault) → Progress bytes rest insns pc → 8 ≤ length rest →
    IsFirstAmiss (window_at rest) f → IsEncodedAs is bytes → ⊥
none_at_all bytes rest insns is pc f p l e c = let m = p.only is c in no_front rest m.0 f l e m.2

wrong_here : (bytes rest : List ℕ) (insns : List Insn) (pc : ℕ) (f : Fault) → Progress bytes rest insns pc → 8 ≤ length rest → IsFirstAmiss
    (window_at rest) f → IsWrong pc f bytes
wrong_here bytes rest insns pc f p l e =
    let z : pc + 0 ≡ pc = omega arith in
    let P = λ (n : ℕ). IsWrong n f bytes in
    subst P z (p.wrong 0 f ([], (refl, l, e)))

-- ---- the loop's invariant, and what each of its ends says

pub record Reached (bytes : List ℕ) (insns : List Insn) (pc : ℕ) : Type 0 where
  pub progress : Progress bytes (drop (8 * pc) bytes) insns pc

pub rest_long : (bytes : List ℕ) (pc : ℕ) → pc < length bytes / 8 → 8 ≤ length (drop (8 * pc) bytes)
rest_long bytes pc h = omega (arith, length-drop (8 * pc) bytes)

rest_none : (rest : List ℕ) → length rest ≡ 0 → rest ≡ []
rest_none [] e = refl
rest_none (x ∷ xs) e = absurd (omega arith)

pub reached_start : (bytes : List ℕ) → length bytes % 8 ≡ 0 → Reached bytes [] 0
reached_start bytes h = record { progress = start bytes h }

pub reached_next : (bytes : List ℕ) (insns new : List Insn) (pc n : ℕ) (i : Insn) → Reached bytes insns pc → pc < length bytes / 8 →
    BeginsWith i (drop (8 * pc) bytes) → new ≡ insns ++ i ∷ [] → n ≡ words i → Reached bytes new (pc + n)
reached_next bytes insns new pc n i r l b a c =
    let p = step bytes (drop (8 * pc) bytes) insns pc i r.progress b (rest_long bytes pc l) in
    let at : drop (8 * words i) (drop (8 * pc) bytes) ≡ drop (8 * (pc + words i)) bytes = drop-drop (8 * words i) (8 * pc) bytes ∙ ap
    (λ (k : ℕ). drop k bytes) (omega arith) in
    rw (a, c) (record { progress = subst (λ (x : List ℕ). Progress bytes x (insns ++ i ∷ []) (pc + words i)) at p })

-- at the end of the bytes
pub record IsAll (bytes : List ℕ) (insns : List Insn) : Type 0 where
  pub encoded : IsEncodedAs insns bytes
  pub only : (is : List Insn) → IsEncodedAs is bytes → insns ≡ is

pub reached_end : (bytes : List ℕ) (insns : List Insn) (pc : ℕ) → Reached bytes insns pc → length bytes / 8 ≤ pc → IsAll bytes insns
reached_end bytes insns pc r l =
    let w = r.progress.position in
    let k = r.progress.whole in
    let e = rest_none (drop (8 * pc) bytes) (omega (arith, length-drop (8 * pc) bytes)) in
    record { encoded = all_read bytes _ insns pc r.progress e; only = λ is c. none_left bytes _ insns is pc r.progress e c }

-- where something is wrong
pub record Ends (bytes : List ℕ) (e : InsnError) : Type 0 where
  pub refused : IsRefused e bytes
  pub none : (is : List Insn) → ¬ IsEncodedAs is bytes

refused_by : (bytes : List ℕ) (pc : ℕ) (f : Fault) → IsSized bytes → IsWrong pc f bytes → IsRefused (error_at f pc) bytes
refused_by bytes pc UnknownOpcode s w = (s, w)
refused_by bytes pc ReservedNotZero s w = (s, w)
refused_by bytes pc HalfWide s w = (s, w)
refused_by bytes pc BadRegister s w = (s, w)

pub reached_wrong : (bytes : List ℕ) (insns : List Insn) (pc : ℕ) (e : InsnError) → Reached bytes insns pc → IsSized bytes → pc < length
    bytes / 8 → IsRefusedAt e pc bytes → Ends bytes e
reached_wrong bytes insns pc e r s h x =
    let long = rest_long bytes pc h in
    let wrong = wrong_here bytes _ insns pc x.fault r.progress long x.first in
    record { refused = rw x.named (refused_by bytes pc x.fault s wrong); none = λ is c. none_at_all bytes _ insns is pc x.fault r.progress long x.first c }

-- ---- the answer at a pc, from the answer at its words

pub begins_at : (bytes : List ℕ) (pc : ℕ) (w : Window) (i : Insn) → 8 * pc + 8 ≤ length bytes → w ≡ window_at (drop (8 * pc) bytes) → IsWord
    i w → BeginsWith i (drop (8 * pc) bytes)
begins_at bytes pc w i l a x =
    begins i (drop (8 * pc) bytes) (omega (arith, length-drop (8 * pc) bytes)) (subst (λ (v : Window). IsWord i v) a x)

pub refused_at : (bytes : List ℕ) (pc : ℕ) (w : Window) (f : Fault) (e : InsnError) → w ≡ window_at (drop (8 * pc) bytes) → IsFirstAmiss w f
    → e ≡ error_at f pc → IsRefusedAt e pc bytes
refused_at bytes pc w f e a x n = record { fault = f; named = n; first = subst (λ (v : Window). IsFirstAmiss v f) a x }
