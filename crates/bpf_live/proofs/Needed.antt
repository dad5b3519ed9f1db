-- A table that has what each instruction needs is right.
use Rattle.std.proofs.Common.{◌≡◌, ◌≢◌, inl, inr, ℕ, ◌+◌, ◌<◌, Bool, true, false, ℤ, pos, List, [], ◌∷◌, Option, Some, None, refl, sym, ap}
use Rattle.std.proofs.Common.{subst, ◌∙◌, arith, eq-eqb}
use Rattle.std.specs.Prelude.{◌==◌, ◌&&◌, ◌||◌, not, nat_le, if◌then◌else◌, get_or}
use Rattle.std.proofs.lemmas.Bool.{leb-false, lt-leb, ne_eqb}
use Rattle.bpf_insn.specs.Atomic.{fetched_into}
use Rattle.bpf_insn.specs.Register.{register_number}
use Rattle.bpf_insn.specs.declared.register.Reg.{Reg}
use Rattle.bpf_insn.specs.declared.instruction.Operand.{Operand}
use Rattle.bpf_insn.specs.declared.instruction.Operand.TheVariants.{Immediate, Register}
use Rattle.bpf_insn.specs.declared.instruction.Insn.{Insn}
use Rattle.bpf_insn.specs.declared.instruction.Insn.TheVariants as insn
use Rattle.bpf_shared.proofs.Puts.{equal_or_not}
use Rattle.bpf_loader.specs.Places.{target}
use Rattle.bpf_loader.specs.Rows.{jump_offset}
use Rattle.bpf_live.specs.Live.{Each, HasCalls, HasLive, IsLive, Table, next_word}
use Rattle.bpf_live.specs.Registers.{is_move, only, reads, with_operand, writes}
use Rattle.bpf_live.specs.Private.Needs.{HasNeeded, is_destination, is_left, is_live_after, is_live_by, is_live_to, is_operand, is_read}
use Rattle.bpf_live.specs.Private.Needs.{is_within, is_written, needs}

same : (k : ℕ) → (k == k) ≡ true
same k = eq-eqb k k refl

other : (k r : ℕ) → r ≢ k → (k == r) ≡ false
other k r n = ne_eqb k r (λ (e : k ≡ r). n (sym e))

or_true : (b : Bool) → (b || true) ≡ true
or_true true = refl
or_true false = refl

-- ---- what isn't written
not_fetched : (o : Option Reg) (r : ℕ) → Each (λ w. r ≢ w) (only o) → is_destination o r ≡ false
not_fetched None r n = refl
not_fetched (Some d) r n = other (register_number d) r n.0

past_five : (r : ℕ) → r ≢ 0 → r ≢ 5 → r ≢ 4 → r ≢ 3 → r ≢ 2 → r ≢ 1 → 5 < r
past_five r n0 n5 n4 n3 n2 n1 = grind (arith, n0, n1, n2, n3, n4, n5)

unwritten : (i : Insn) (r : ℕ) → Each (λ w. r ≢ w) (writes i) → is_written i r ≡ false
unwritten (insn.CallHelper k) r n = lt-leb r 5 (past_five r n.0 n.1.0 n.1.1.0 n.1.1.1.0 n.1.1.1.1.0 n.1.1.1.1.1.0)
unwritten (insn.CallLocal o) r n = ne_eqb r 10 n.0
unwritten (insn.Alu w op d s) r n = other (register_number d) r n.0
unwritten (insn.Negate w d) r n = other (register_number d) r n.0
unwritten (insn.SignExtend e d s) r n = other (register_number d) r n.0
unwritten (insn.SwapBytes k w d) r n = other (register_number d) r n.0
unwritten (insn.Jump o) r n = refl
unwritten (insn.JumpLong o) r n = refl
unwritten (insn.JumpIf w c d s o) r n = refl
unwritten insn.Exit r n = refl
unwritten (insn.Load z d b o) r n = other (register_number d) r n.0
unwritten (insn.LoadSigned z d b o) r n = other (register_number d) r n.0
unwritten (insn.StoreImmediate z b o v) r n = refl
unwritten (insn.Store z b o s) r n = refl
unwritten (insn.Atomic w op b o s) r n = not_fetched (fetched_into op s) r n
unwritten (insn.LoadNumber d k) r n = other (register_number d) r n.0
unwritten (insn.LoadMap d m) r n = other (register_number d) r n.0

-- ---- what is read
module _ (P : ℕ → Type 0) where
  each_operand : (s : Operand) (others : List ℕ) → ((r : ℕ) → is_operand s r ≡ true → P r) → Each P others → Each P (with_operand s others)
  each_operand (Immediate n) others f e = e
  each_operand (Register s) others f e = (f (register_number s) (same (register_number s)), e)

  each_moved : (b : Bool) (k : ℕ) → ((r : ℕ) → (not b && (k == r)) ≡ true → P r) → Each P (if b then [] else k ∷ [])
  each_moved true k f = tt
  each_moved false k f = (f k (same k), tt)

  each_argument : (a b c : Bool) → ((r : ℕ) → (if a then is_within 1 4 r else if b then is_within 1 2 r else if c then (r == 1) else false) ≡ true → P r)
      → Each P (if a then 1 ∷ 2 ∷ 3 ∷ 4 ∷ [] else if b then 1 ∷ 2 ∷ [] else if c then 1 ∷ [] else [])
  each_argument true b c f = (f 1 refl, (f 2 refl, (f 3 refl, (f 4 refl, tt))))
  each_argument false true c f = (f 1 refl, (f 2 refl, tt))
  each_argument false false true f = (f 1 refl, tt)
  each_argument false false false f = tt

  each_read : (i : Insn) → ((r : ℕ) → is_read i r ≡ true → P r) → Each P (reads i)
  each_read (insn.Alu w op d s) f =
      each_operand s (if is_move op then [] else register_number d ∷ [])
      (λ r e. f r (ap (λ (b : Bool). b || (not (is_move op) && (register_number d == r))) e))
      (each_moved (is_move op) (register_number d) (λ r e. f r (ap (λ (b : Bool). is_operand s r || b) e ∙ or_true (is_operand s r))))
  each_read (insn.Negate w d) f = (f (register_number d) (same (register_number d)), tt)
  each_read (insn.SignExtend x d s) f = (f (register_number s) (same (register_number s)), tt)
  each_read (insn.SwapBytes k w d) f = (f (register_number d) (same (register_number d)), tt)
  each_read (insn.Jump o) f = tt
  each_read (insn.JumpLong o) f = tt
  each_read (insn.JumpIf w c d s o) f =
      each_operand s (register_number d ∷ []) (λ r e. f r (ap (λ (b : Bool). b || (register_number d == r)) e)) (
        f (register_number d) (ap (λ (b : Bool). is_operand s (register_number d) || b) (same (register_number d)) ∙ or_true
            (is_operand s (register_number d))),
        tt,
      )
  each_read (insn.CallHelper n) f = each_argument (n == 2) ((n == 1) || (n == 3)) ((n == 93) || (n == 94)) f
  each_read (insn.CallLocal o) f = (f 6 refl, (f 7 refl, (f 8 refl, (f 9 refl, tt))))
  each_read insn.Exit f = (f 0 refl, tt)
  each_read (insn.Load z d b o) f = (f (register_number b) (same (register_number b)), tt)
  each_read (insn.LoadSigned z d b o) f = (f (register_number b) (same (register_number b)), tt)
  each_read (insn.StoreImmediate z b o v) f = (f (register_number b) (same (register_number b)), tt)
  each_read (insn.Store z b o s) f = (
    f (register_number b) (ap (λ (t : Bool). t || (register_number s == register_number b)) (same (register_number b))),
    (
      f (register_number s) (ap (λ (t : Bool). (register_number b == register_number s) || t) (same (register_number s)) ∙ or_true
          (register_number b == register_number s)),
      tt,
    ),
  )
  each_read (insn.Atomic w op b o s) f =
      let x = register_number b in
      let y = register_number s in (
        f 0 refl,
        (
          f x (ap (λ (t : Bool). (x == 0) || (t || (y == x))) (same x) ∙ or_true (x == 0)),
          (f y (ap (λ (t : Bool). (y == 0) || ((x == y) || t)) (same y) ∙ ap (λ (t : Bool). (y == 0) || t) (or_true (x == y)) ∙ or_true (y == 0)), tt),
        ),
      )
  each_read (insn.LoadNumber d n) f = tt
  each_read (insn.LoadMap d m) f = tt

-- ---- so it is right
module _ (is : List Insn) (table : Table) (calls : Bool) (pc : ℕ) (i : Insn) (has : HasNeeded table calls pc i) (some : HasCalls is → calls ≡ true) where
  low_or_high : (r : ℕ) (b : Bool) → nat_le 10 r ≡ b → needs table calls pc i r ≡ true → IsLive table pc r
  low_or_high r true e need = ap (λ (b : Bool). b || get_or (get_or table pc []) r true) e
  low_or_high r false e need = has r (leb-false 10 r e) need

  live_if : (r : ℕ) → needs table calls pc i r ≡ true → IsLive table pc r
  live_if r need = low_or_high r (nat_le 10 r) refl need

  abbrev after : ℕ → Bool
  after r = is_live_after table pc (next_word i) r || is_live_by table pc (jump_offset i) r

  from_read : (r : ℕ) → is_read i r ≡ true → IsLive table pc r
  from_read r e = live_if r (ap (λ (b : Bool). (b || is_left calls i r) || (not (is_written i r) && after r)) e)

  from_left : (r : ℕ) → is_left calls i r ≡ true → IsLive table pc r
  from_left r e = live_if r (ap (λ (b : Bool). (is_read i r || b) || (not (is_written i r) && after r)) e ∙ ap
      (λ (b : Bool). b || (not (is_written i r) && after r)) (or_true (is_read i r)))

  from_after : (r : ℕ) → Each (λ w. r ≢ w) (writes i) → after r ≡ true → IsLive table pc r
  from_after r n e =
      live_if r
      (ap (λ (b : Bool). (is_read i r || is_left calls i r) || (not b && after r)) (unwritten i r n) ∙ ap
      (λ (b : Bool). (is_read i r || is_left calls i r) || b) e
      ∙ or_true (is_read i r || is_left calls i r))

  left_live : i ≡ insn.Exit → HasCalls is → (r : ℕ) → is_within 1 5 r ≡ true → IsLive table pc r
  left_live e h r w = from_left r (ap (λ (j : Insn). is_left calls j r) e ∙ ap (λ (b : Bool). b && is_within 1 5 r) (some h) ∙ w)

  after_next : (n : ℕ) → next_word i ≡ Some n → (r : ℕ) → IsLive table (pc + n) r → after r ≡ true
  after_next n e r l =
      ap (λ (o : Option ℕ). is_live_after table pc o r || is_live_by table pc (jump_offset i) r) e ∙ ap
      (λ (b : Bool). b || is_live_by table pc (jump_offset i) r) l

  after_jump : (offset : ℤ) (to : ℕ) → jump_offset i ≡ Some offset → pos to ≡ target pc offset → (r : ℕ) → IsLive table to r → after r ≡ true
  after_jump offset to e t r l =
      ap (λ (o : Option ℤ). is_live_after table pc (next_word i) r || is_live_by table pc o r) e
      ∙ ap (λ (x : ℤ). is_live_after table pc (next_word i) r || is_live_to table x r) (sym t)
      ∙ ap (λ (b : Bool). is_live_after table pc (next_word i) r || b) l ∙ or_true (is_live_after table pc (next_word i) r)

  pub has_live : HasLive is table pc i
  has_live = record {
    inputs = each_read (IsLive table pc) i from_read;
    exits = λ e h. (left_live e h 1 refl, (left_live e h 2 refl, (left_live e h 3 refl, (left_live e h 4 refl, (left_live e h 5 refl, tt)))));
    next = λ n e r l written. from_after r written (after_next n e r l);
    jumps = λ offset to e t r l written. from_after r written (after_jump offset to e t r l);
  }

-- ---- with no sets all are live
pub no_set : (pc r : ℕ) → IsLive [] pc r
no_set pc r = or_true (nat_le 10 r)

each_of : (P : ℕ → Type 0) → ((r : ℕ) → P r) → (numbers : List ℕ) → Each P numbers
each_of P all [] = tt
each_of P all (n ∷ ns) = (all n, each_of P all ns)

pub all_are_live : (is : List Insn) (pc : ℕ) (i : Insn) → HasLive is [] pc i
all_are_live is pc i = record {
  inputs = each_of (IsLive [] pc) (no_set pc) (reads i);
  exits = λ e h. each_of (IsLive [] pc) (no_set pc) (1 ∷ 2 ∷ 3 ∷ 4 ∷ 5 ∷ []);
  next = λ n e r l written. no_set pc r;
  jumps = λ offset to e t r l written. no_set pc r;
}

-- ---- what is so below a number and at it
pub one_further : (P : ℕ → Type 0) (n : ℕ) → ((k : ℕ) → k < n → P k) → P n → (k : ℕ) → k < n + 1 → P k
one_further P n below here k low = elim (equal_or_not k n) [
  | inl e ↦ subst P (sym e) here
  | inr ne ↦ below k (omega (arith, low, ne))
]
