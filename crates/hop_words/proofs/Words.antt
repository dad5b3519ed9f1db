-- The steps on a word that bytes of a value lie in: what each needs of the word, and what it says.
use Rattle.std.proofs.Common.{◌≡◌, ◌≢◌, ℕ, ◌<◌, true, [], ◌∷◌, ◌++◌, ◌==◌, refl, ap, sym, subst, ◌∙◌, eq-eqb, ne_eqb}
use prog.Atomic.{either}
use Rattle.atomic_table.proofs.Lists.{exchanged}
use Rattle.bpf_shared.specs.declared.events.Event.{Event}
use Rattle.bpf_shared.specs.declared.events.Event.TheVariants.{Load, Store, Atomic}
use Rattle.bpf_shared.specs.declared.events.Size.{Size}
use Rattle.bpf_base.specs.declared.atomic.Change.{Change}
use Rattle.bpf_base.specs.Bytes.{low_bytes, with_part}
use Rattle.bpf_base.specs.Atomic.{number_after}
use Rattle.bpf_shared.specs.Access.{bytes_in}
use Rattle.bpf_shared.specs.Store.{IsFrozen}
use Rattle.bpf_shared.specs.Events.{Allowed, Reaches, number_in, after_write}
use Rattle.bpf_shared.specs.History.{entry}
use Rattle.bpf_shared.specs.Own.{turns_of}
use Rattle.hop_layout.specs.declared.place.Place.{Place}
use Rattle.hop_layout.specs.declared.about.About.{About}
use Rattle.hop_layout.specs.Layout.{mem, put_at}
use Rattle.hop_words.specs.declared.known.Known.{Known}
use Rattle.hop_words.specs.Ghost.{lane, Ghost}
use Rattle.hop_words.specs.Rule.{begun_in, Rule}
use Rattle.hop_words.specs.Shortage.{HasCause}
use Rattle.hop_words.specs.Private.Step.{Next, Steps}
use Rattle.hop_words.specs.Kinds.{number_in_word, AddsEvent}
use Rattle.hop_words.proofs.Unlocks.{noted_event, event_rule}
use Rattle.hop_words.proofs.Stays.{put_again, stay, next_as, saw}

-- b bytes of a value that the CPU reaches, from this address on, lie in the word at p, from its o-th
-- byte on
pub record LiesIn (a : About) (l : Known) (p : Place) (address o b : ℕ) (w : Place → ℕ) (g : Ghost) : Type 0 where
  pub number : ℕ
  pub runs : g.last.running l.cpu ≡ true
  pub reaches : Reaches g.last l.cpu number address b
  pub found : number_in_word (w p) o b ≡ number_in g.last number address b

-- and the word may become another in which just these bytes have changed
pub record MayLeave (a : About) (l : Known) (p : Place) (address o b : ℕ) (w : Place → ℕ) (g : Ghost) : Type 0 where
  pub lies : LiesIn a l p address o b w g
  pub writable : IsFrozen g.last.shape lies.number → ⊥
  pub next : (x y : ℕ) → low_bytes 8 x ≡ with_part (low_bytes 8 (w p)) o (low_bytes b y) → (ev : Event) → turns_of (ev ∷ []) ≡ 0
      → HasCause a.version (begun_in g.log g.lanes.fresh) (record { shape = a.shape; before = g.log; store = g.last; cpu = l.cpu }) ev
      → Allowed g.last l.cpu ev (after_write g.last lies.number address b y) → Next a (put_at w p x) g l.cpu (AddsEvent a l ev)

module _ (a : About) (l : Known) (p : Place) (address o : ℕ) (sz : Size) where
  -- whatever the words are
  abbrev Always : ((Place → ℕ) → Ghost → Type 0) → Type 0
  Always P = (w : Place → ℕ) (g : Ghost) → Rule a w g → lane g.lanes l.cpu ≡ l → l.cpu < a.shape.cpus → P w g

  abbrev b : ℕ
  b = bytes_in sz

  pub word_load : Always (LiesIn a l p address o b) → Steps a l p (λ n. n) (λ ws n l'. AddsEvent a l (Load address sz (number_in_word n o b)) l')
  word_load all ws g sized r is inside fits =
      let w = mem a.shape ws in
      let t = all w g r is inside in
      let ev = Load address sz (number_in_word (w p) o b) in
      let may : Allowed g.last l.cpu ev g.last = (t.runs, (t.number, t.reaches, t.found, refl)) in
      let rule = event_rule a w g r l inside ev refl tt may in
      record {
        ghost = noted_event g l.cpu ev;
        rule = subst (λ (z : Place → ℕ). Rule a z (noted_event g l.cpu ev)) (sym (put_again w p)) rule;
        others = λ d ne. rw (ne_eqb d l.cpu ne) refl;
        longer = (entry l.cpu ev ∷ [], refl);
        tally = refl;
        says = subst (AddsEvent a l ev) (sym (rw (eq-eqb l.cpu l.cpu refl)
            (ap (λ (z : Known). record z { seen = g.log ++ entry l.cpu ev ∷ [] }) is)))
            (record { seen = saw a w g r l is inside ev g.last may rule.logged; after = refl });
      }

  module _ (all : Always (MayLeave a l p address o b)) where
    may_store : (w : Place → ℕ) (g : Ghost) (t : MayLeave a l p address o b w g) (y : ℕ) → Allowed g.last l.cpu (Store address sz y)
        (after_write g.last t.lies.number address b y)
    may_store w g t y = (t.lies.runs, (t.lies.number, record { reaches = t.lies.reaches; writable = t.writable }, refl))

    may_atomic : (w : Place → ℕ) (g : Ghost) (t : MayLeave a l p address o b w g) (op : Change) (operand expected : ℕ) → (let f = number_in_word (w p) o b in
        Allowed g.last l.cpu (Atomic address sz op operand expected f) (after_write g.last t.lies.number address b (number_after op b f operand expected)))
    may_atomic w g t op operand expected = (t.lies.runs, (t.lies.number, record { reaches = t.lies.reaches; writable = t.writable }, t.lies.found, refl))

    -- a store of a whole word
    pub word_store : (x y : ℕ) → ((n : ℕ) → low_bytes 8 x ≡ with_part (low_bytes 8 n) o (low_bytes b y)) → Steps a l p (λ _. x)
        (λ ws n l'. AddsEvent a l (Store address sz y) l')
    word_store x y splices ws g sized r is inside fits =
        let w = mem a.shape ws in
        let t = all w g r is inside in
        t.next x y (splices (w p)) (Store address sz y) refl tt (may_store w g t y)

    -- a compare-exchange of the whole word, by which some of its bytes are stored
    pub word_store_part : (old x y : ℕ) → low_bytes 8 x ≡ with_part (low_bytes 8 old) o (low_bytes b y)
        → Steps a l p (λ n. either (n == old) x n) (λ ws n l'. (n ≡ old → AddsEvent a l (Store address sz y) l') × (n ≢ old → l' ≡ l))
    word_store_part old x y splices ws g sized r is inside fits =
        let w = mem a.shape ws in
        let t = all w g r is inside in
        exchanged (w p) old x (λ n. Next a (put_at w p n) g l.cpu (λ l'. (w p ≡ old → AddsEvent a l (Store address sz y) l') × (w p ≢ old → l' ≡ l)))
        (λ found. next_as _ _ _ _ _ _ (λ q u. ((λ _. u), (λ ne. absurd (ne found))))
        (t.next x y (splices ∙ ap (λ (z : ℕ). with_part (low_bytes 8 z) o (low_bytes b y)) (sym found)) (Store address sz y) refl tt
        (may_store w g t y)))
        (λ ne. stay a w g l.cpu p _ r ((λ found. absurd (ne found)), (λ _. is)))

    -- the same for an atomic operation
    pub word_atomic_part : (op : Change) (operand expected old x : ℕ)
        → low_bytes 8 x ≡ with_part (low_bytes 8 old) o (low_bytes b (number_after op b (number_in_word old o b) operand expected))
        → Steps a l p (λ n. either (n == old) x n) (λ ws n l'. (n ≡ old → AddsEvent a l
        (Atomic address sz op operand expected (number_in_word old o b)) l') × (n ≢ old → l' ≡ l))
    word_atomic_part op operand expected old x splices ws g sized r is inside fits =
        let w = mem a.shape ws in
        let t = all w g r is inside in
        let ev = Atomic address sz op operand expected in
        exchanged (w p) old x (λ n. Next a (put_at w p n) g l.cpu (λ l'. (w p ≡ old → AddsEvent a l (ev (number_in_word old o b)) l') × (w p ≢ old → l' ≡ l)))
        (λ found. next_as _ _ _ _ _ _ (λ q u. (
          (λ _. subst (λ (z : ℕ). AddsEvent a l (ev (number_in_word z o b)) q) found u),
          (λ ne. absurd (ne found)),
        )) (t.next x (number_after op b (number_in_word (w p) o b) operand expected)
        (splices ∙ ap (λ (z : ℕ). with_part (low_bytes 8 z) o (low_bytes b (number_after op b (number_in_word z o b) operand expected)))
        (sym found)) (ev (number_in_word (w p) o b)) refl tt (may_atomic w g t op operand expected)))
        (λ ne. stay a w g l.cpu p _ r ((λ found. absurd (ne found)), (λ _. is)))

    -- a fetch operation or a swap on a whole word
    pub word_fetch : (op : Change) (operand expected : ℕ) (f : ℕ → ℕ)
        → ((n : ℕ) → n < 18446744073709551616 → low_bytes 8 (f n) ≡ with_part (low_bytes 8 n) o
        (low_bytes b (number_after op b (number_in_word n o b) operand expected)))
        → Steps a l p f (λ ws n l'. AddsEvent a l (Atomic address sz op operand expected (number_in_word n o b)) l')
    word_fetch op operand expected f splices ws g sized r is inside fits =
        let w = mem a.shape ws in
        let t = all w g r is inside in
        t.next (f (w p)) (number_after op b (number_in_word (w p) o b) operand expected) (splices (w p) fits)
        (Atomic address sz op operand expected (number_in_word (w p) o b)) refl tt (may_atomic w g t op operand expected)
