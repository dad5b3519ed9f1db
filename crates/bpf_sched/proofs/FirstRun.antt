-- The ports of a new store, which have seen nothing; and after CPU 0 alone has had a run, which all have seen.
use Rattle.std.proofs.Common.{◌≡◌, ◌≢◌, ◌⊎◌, ℕ, zero, suc, ◌+◌, ◌<◌, ◌≤◌, if◌then◌else◌, false, Bool, List, [], ◌∷◌, ◌++◌, Some, None}
use Rattle.std.proofs.Common.{slice_get, length, map, get_or, inl, inr, ⊎_elim, refl, ap, sym, subst, ◌∙◌, arith, eq-eqb, ne_eqb}
use Rattle.std.proofs.lemmas.List.{get_or-map, length-map}
use Rattle.std.proofs.lemmas.Option.{slice_get-get_or, slice_get_within, get_or_from_slice_get}
use mathlib.Core.Logic.{dite}
use native.Mathlib.Decide.{dec_lt}
use Rattle.bpf_shared.specs.declared.events.Event.{Event}
use Rattle.bpf_shared.specs.declared.events.Entry.{Entry}
use Rattle.bpf_shared.specs.History.{events_of, entry}
use Rattle.bpf_shared.specs.Own.{in_run}
use Rattle.bpf_shared.proofs.Puts.{equal_or_not}
use Rattle.bpf_pairs.specs.Pairs.{Pair}
use Rattle.bpf_pairs.specs.Putting.{first_history, run_events}
use Rattle.hop_layout.specs.declared.about.About.{About}
use Rattle.hop_words.specs.declared.known.Known.{Known}
use Rattle.hop_words.specs.Inside.{Shown}
use Rattle.hop_words.specs.Opens.{new_lane, lanes_from}
use Rattle.hop_map.specs.Port.{Port, IsPortOf, known_of, own_events, runs}
use Rattle.hop_map.specs.Stores.{ArePorts, AreIdlePorts, HaveSeen, IsWhole, seen_by}

-- ---- new ports
long_lanes : (a : About) (c n : ℕ) → length (lanes_from a c n) ≡ n
long_lanes a c zero = refl
long_lanes a c (suc n) = ap suc (long_lanes a (c + 1) n)

lane_at : (a : About) (c n k : ℕ) (d : Known) → k < n → get_or (lanes_from a c n) k d ≡ new_lane a (c + k)
lane_at a c zero k d inside = absurd (omega arith)
lane_at a c (suc n) zero d inside = ap (new_lane a) (let e : c ≡ c + 0 = omega arith in e)
lane_at a c (suc n) (suc k) d inside = lane_at a (c + 1) n k d (omega arith) ∙ ap (new_lane a) (let e : c + 1 + k ≡ c + suc k = omega arith in e)

module _ (t : Shown) where
  pub many_new : (ports : List Port) → ArePorts t ports → length ports ≡ t.about.shape.cpus
  many_new ports are = sym (length-map ports known_of) ∙ (ap length are.new ∙ long_lanes t.about 0 t.about.shape.cpus)

  pub new_at : (ports : List Port) → ArePorts t ports → (c : ℕ) (p : Port) → slice_get ports c ≡ Some p → p.known ≡ new_lane t.about c
  new_at ports are c p is =
      let inside = slice_get_within ports c p is in
      let few : c < t.about.shape.cpus = (let n = many_new ports are in omega arith) in
      ap known_of (sym (get_or_from_slice_get ports c p p is))
      ∙ (sym (get_or-map known_of ports c p p.known inside)
      ∙ (ap (λ (ls : List Known). get_or ls c p.known) are.new
      ∙ (lane_at t.about 0 t.about.shape.cpus c p.known few ∙ ap (new_lane t.about) (let e : 0 + c ≡ c = omega arith in e))))

  pub nothing_done : (ports : List Port) → ArePorts t ports → (c : ℕ) (p : Port) → slice_get ports c ≡ Some p → own_events p ≡ []
  nothing_done ports are c p is = ap (λ (l : Known). events_of l.cpu l.seen) (new_at ports are c p is)

  pub idle_at : (ports : List Port) → ArePorts t ports → (c : ℕ) (p : Port) → slice_get ports c ≡ Some p → runs p ≡ false
  idle_at ports are c p is = ap in_run (nothing_done ports are c p is)

  pub fits_at : (ports : List Port) → ArePorts t ports → (c : ℕ) (p : Port) → slice_get ports c ≡ Some p → IsPortOf t p
  fits_at ports are c p is = subst (IsPortOf t) (get_or_from_slice_get ports c p p is) (are.each c p (slice_get_within ports c p is))

  pub nothing_seen : (ports : List Port) → ArePorts t ports → seen_by ports ≡ []
  nothing_seen [] are = refl
  nothing_seen (p ∷ ps) are = ap (λ (l : Known). l.seen) (new_at (p ∷ ps) are 0 p refl)

  pub new_ports : (ports : List Port) → ArePorts t ports → HaveSeen t (seen_by ports) ports
  new_ports ports are = record {
    ports = record {
      each = are.each;
      count = many_new ports are;
      numbered = λ c p is. ap (λ (l : Known). l.cpu) (new_at ports are c p is);
      idle = λ c d inside. idle_at ports are c (get_or ports c d) (slice_get-get_or ports c d inside);
    };
    seen = λ c d inside. ap (λ (l : Known). l.seen) (new_at ports are c (get_or ports c d) (slice_get-get_or ports c d inside)) ∙ sym (nothing_seen ports are);
  }

-- the port that comes after those that were taken
its_place : (yielded rest : List Port) (p : Port) → slice_get (yielded ++ p ∷ rest) (length yielded) ≡ Some p
its_place [] rest p = refl
its_place (q ∷ yielded) rest p = its_place yielded rest p

pub next_of : (ports yielded left rest : List Port) (p : Port) → yielded ++ left ≡ ports → left ≡ p ∷ rest → slice_get ports (length yielded) ≡ Some p
next_of ports yielded left rest p whole is = ap (λ (l : List Port). slice_get l (length yielded))
    (sym whole ∙ ap (λ (l : List Port). yielded ++ l) is) ∙ its_place yielded rest p

-- ---- the first history
pub own_run : (es : List Event) → events_of 0 (map (entry 0) es) ≡ es
own_run [] = refl
own_run (e ∷ es) = ap (λ (l : List Event). e ∷ l) (own_run es)

pub other_run : (c : ℕ) (es : List Event) → c ≢ 0 → events_of c (map (entry 0) es) ≡ []
other_run c [] other = refl
other_run c (e ∷ es) other =
    ap (λ (b : Bool). if b then e ∷ events_of c (map (entry 0) es) else events_of c (map (entry 0) es)) (ne_eqb 0 c (λ z. other (sym z))) ∙ other_run c es other

-- a history of which no other CPU has any is CPU 0's own
alone : (h : List Entry) → ((c : ℕ) → c ≢ 0 → events_of c h ≡ []) → h ≡ map (entry 0) (events_of 0 h)
alone [] others = refl
alone (e ∷ h) others = elim (equal_or_not e.cpu 0) [
  | inl zeroth ↦
      let own : events_of 0 (e ∷ h) ≡ e.event ∷ events_of 0 h = ap (λ (b : Bool). if b then e.event ∷ events_of 0 h else events_of 0 h)
      (eq-eqb e.cpu 0 zeroth) in
      let skip : (c : ℕ) → c ≢ 0 → events_of c (e ∷ h) ≡ events_of c h = λ c other. ap
      (λ (b : Bool). if b then e.event ∷ events_of c h else events_of c h) (ne_eqb e.cpu c (λ same. other (sym same ∙ zeroth))) in
      let one : e ≡ entry 0 e.event = λ i. record { cpu = zeroth i; event = e.event } in
      let rest = alone h (λ c other. sym (skip c other) ∙ others c other) in
      (λ i. one i ∷ rest i) ∙ ap (map (entry 0)) (sym own)
  | inr other ↦
      let own : events_of e.cpu (e ∷ h) ≡ e.event ∷ events_of e.cpu h = ap
      (λ (b : Bool). if b then e.event ∷ events_of e.cpu h else events_of e.cpu h) (eq-eqb e.cpu e.cpu refl) in
      absurd (let n = ap length (sym own ∙ others e.cpu other) in omega arith)
]

module _ (t : Shown) (ps : List Pair) where
  -- the port of the c-th CPU, after CPU 0 has put the pairs in
  pub record IsFilled (c : ℕ) (p : Port) : Type 0 where
    pub fits : IsPortOf t p
    pub number : p.known.cpu ≡ c
    pub idle : runs p ≡ false
    pub own : own_events p ≡ events_of c (first_history ps)

  abbrev pub AreFilled : List Port → Type 0
  AreFilled ports = (c : ℕ) (p : Port) → slice_get ports c ≡ Some p → IsFilled c p

  some_same : (x y : Port) → Some x ≡ Some y → x ≡ y
  some_same x y e = cc

  not_there : (x : Port) → None ≡ Some x → ⊥
  not_there x e = cc

  last_or_before : (xs : List Port) (x y : Port) (c : ℕ) → slice_get (xs ++ x ∷ []) c ≡ Some y → (slice_get xs c ≡ Some y) ⊎ ((c ≡ length xs) × (x ≡ y))
  last_or_before [] x y zero e = inr (refl, some_same x y e)
  last_or_before [] x y (suc c) e = absurd (not_there y e)
  last_or_before (z ∷ xs) x y zero e = inl e
  last_or_before (z ∷ xs) x y (suc c) e = ⊎_elim (λ (h : slice_get xs c ≡ Some y). inl h)
      (λ (h : (c ≡ length xs) × (x ≡ y)). inr (ap suc h.0, h.1)) (last_or_before xs x y c e)

  pub none_filled : (ports : List Port) → ports ≡ [] → AreFilled ports
  none_filled ports none c p is = absurd (let inside = slice_get_within ports c p is in let n = ap length none in omega arith)

  pub one_more : (ports all : List Port) (q : Port) → all ≡ ports ++ q ∷ [] → AreFilled ports → IsFilled (length ports) q → AreFilled all
  one_more ports all q is before last c p there = ⊎_elim
      (λ (h : slice_get ports c ≡ Some p). before c p h)
      (λ (h : (c ≡ length ports) × (q ≡ p)). subst (IsFilled c) h.1 (subst (λ (k : ℕ). IsFilled k q) (sym h.0) last))
      (last_or_before ports q p c (ap (λ (l : List Port). slice_get l c) (sym is) ∙ there))

  module _ (ports : List Port) (filled : AreFilled ports) (count : length ports ≡ t.about.shape.cpus) where
    at : (c : ℕ) (d : Port) → c < length ports → IsFilled c (get_or ports c d)
    at c d inside = filled c (get_or ports c d) (slice_get-get_or ports c d inside)

    pub idle_ports : AreIdlePorts t ports
    idle_ports = record {
      each = λ c d inside. (at c d inside).fits;
      count = count;
      numbered = λ c p is. (filled c p is).number;
      idle = λ c d inside. (at c d inside).idle;
    }

    there : (xs : List Port) (c : ℕ) → c < length xs → (p : Port) × (slice_get xs c ≡ Some p)
    there [] c inside = absurd (omega arith)
    there (x ∷ xs) zero inside = (x, refl)
    there (x ∷ xs) (suc c) inside = there xs c (omega arith)

    -- what all have seen is that run
    pub is_first : (h : List Entry) → IsWhole t.about.shape.cpus ports h → 1 ≤ t.about.shape.cpus → h ≡ first_history ps
    is_first h w some =
        let own : (c : ℕ) → c < t.about.shape.cpus → events_of c h ≡ events_of c (first_history ps) = λ c inside.
        let p = there ports c (omega arith) in
        w.own c p.0 p.1 ∙ (filled c p.0 p.1).own
        in
        alone h (λ c other. dite (dec_lt c t.about.shape.cpus)
        (λ (inside : c < t.about.shape.cpus). own c inside ∙ other_run c (run_events ps) other)
        (λ past. w.others c (omega arith)))
        ∙ ap (map (entry 0)) (own 0 (omega arith) ∙ own_run (run_events ps))
