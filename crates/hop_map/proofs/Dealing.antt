-- The ports of a new store, and of one whose ports are back.
use Rattle.std.proofs.Common.{◌≡◌, ◌≢◌, ℕ, zero, suc, ◌+◌, ◌%◌, ◌<◌, ◌≤◌, List, [], ◌∷◌, ◌++◌, None, length, map, All, refl, ap, sym, subst, ◌∙◌, arith}
use Rattle.std.proofs.lemmas.List.{length-append, get_or_append_left}
use Rattle.std.proofs.lemmas.List.Elements.{All-nil, All-cons, All-head, All-tail}
use Rattle.std.proofs.Math.Seq.{get_or-append_seam}
use mathlib.Core.Option.{some, some-injective, some-ne-none}
use lib.ListN.{get_elem?}
use Rattle.atomic_table.specs.Seated.{TableId}
use Rattle.atomic_table.proofs.Lists.{at_map}
use Rattle.bpf_shared.specs.History.{IsLegal, Legal, events_of}
use Rattle.bpf_shared.specs.Store.{Plain, as_made}
use Rattle.bpf_shared.specs.declared.events.Entry.{Entry}
use Rattle.hop_layout.specs.declared.about.About.{About}
use Rattle.hop_words.specs.declared.known.Known.{Known}
use Rattle.hop_words.specs.declared.known.Limbo.{Limbo}
use Rattle.hop_words.specs.Ghost.{Each, HasElement, limbo_at, no_limbo}
use Rattle.hop_words.specs.Inside.{Shown}
use Rattle.hop_words.specs.Opens.{no_limbos, new_lane, lanes_from}
use Rattle.bpf_shared.specs.Own.{in_run}
use Rattle.hop_words.specs.Shortage.{updates_in, HaveCausesBy, HaveCauses}
use Rattle.hop_words.specs.Rule.{begun_in, taken_at}
use Rattle.hop_words.specs.Closing.{AreAllBack, Ending}
use Rattle.hop_words.proofs.Shortages.{causes_made}
use Rattle.hop_map.specs.Dumping.{IsLast}
use Rattle.hop_words.specs.Seats.{view, KeepsWholeHistory}
use Rattle.hop_arena.specs.declared.arena.Arena.{Arena}
use Rattle.hop_epoch.specs.declared.batches.Batches.{Batches}
use Rattle.hop_epoch.specs.Batch.{Tracks, front}
use Rattle.hop_map.specs.Port.{Port, AreArenas, AreBatches, IsPortOf, IsAllOf, known_of, batches_at, no_batches}
use Rattle.hop_map.specs.Private.Port.{HasNothing, IsFree}
use Rattle.hop_map.specs.Stores.{IsNewLane}
use Rattle.hop_map.proofs.Ports.{by_equal}

pub none_taken : (n m : ℕ) → limbo_at (no_limbos n) m ≡ no_limbo
none_taken zero m = refl
none_taken (suc n) zero = refl
none_taken (suc n) (suc m) = none_taken n m

pub limbo_size : (n : ℕ) → length (no_limbos n) ≡ n
limbo_size zero = refl
limbo_size (suc n) = ap suc (limbo_size n)

-- ---- one more
last_at : {A : Type 0} (xs : List A) (x d : A) (n : ℕ) → length xs ≡ n → Rattle.std.proofs.Common.get_or (xs ++ x ∷ []) n d ≡ x
last_at xs x d n e = subst (λ (k : ℕ). Rattle.std.proofs.Common.get_or (xs ++ x ∷ []) k d ≡ x) e (get_or-append_seam xs x [] d)

pub batches_more : (a : About) (l : Known) (n : ℕ) (xs : List Batches) (x : Batches) → AreBatches a l n xs → x.map ≡ n → x.young ≡ None →
    x.aged ≡ None → n < length l.limbo → limbo_at l.limbo n ≡ no_limbo → AreBatches a l (n + 1) (xs ++ x ∷ [])
batches_more a l n xs x h name young aged room none = record {
  size = length-append xs (x ∷ []) ∙ ap (λ (k : ℕ). k + 1) h.size;
  map = λ m inside. by_equal m n
      (λ e. subst (λ (j : ℕ). (batches_at ys j).map ≡ j) (sym e) (ap (λ (y : Batches). y.map) last ∙ name))
      (λ ne. ap (λ (y : Batches). y.map) (early m (lt m inside ne)) ∙ h.map m (lt m inside ne));
  each = λ m inside. by_equal m n
      (λ e. subst (λ (j : ℕ). Is j (batches_at ys j)) (sym e) (subst (Is n) (sym last) is))
      (λ ne. subst (Is m) (sym (early m (lt m inside ne))) (h.each m (lt m inside ne)));
}
  where
    ys : List Batches
    ys = xs ++ x ∷ []

    Is : ℕ → Batches → Type 0
    Is m y = Tracks a l m y.young y.aged y.noted

    is : Is n x
    is = record {
      room = room;
      young_is = young ∙ ap (λ (y : Limbo). front y.young) (sym none);
      old_is = aged ∙ ap (λ (y : Limbo). front y.old) (sym none);
      young_inside = subst (λ (y : Limbo). Each (HasElement a n) y.young) (sym none) tt;
      old_inside = subst (λ (y : Limbo). Each (HasElement a n) y.old) (sym none) tt;
      counters = Rattle.std.proofs.Common.inl (ap (λ (y : Limbo). y.old) none);
    }

    last : batches_at ys n ≡ x
    last = last_at xs x no_batches n h.size

    lt : (m : ℕ) → m < n + 1 → m ≢ n → m < n
    lt m inside ne = Rattle.hop_map.proofs.Ports.less m n inside ne

    early : (m : ℕ) → m < n → batches_at ys m ≡ batches_at xs m
    early m inside = get_or_append_left xs (x ∷ []) no_batches m (let s = h.size in omega arith)

-- ---- a new port
pub starts_idle : (a : About) (l : Known) → l ≡ new_lane a l.cpu → HasNothing l
starts_idle a l new = record {
  fresh = ap (λ (k : Known). k.fresh) new;
  locks = ap (λ (k : Known). k.locks) new;
  used = λ m. ap (λ (k : Known). (limbo_at k.limbo m).used) new ∙ ap (λ (x : Limbo). x.used) (none_taken (length a.shape.maps) m);
}

pub starts : (t : Shown) (z : TableId) (l : Known) (xs : List Arena) (bs : List Batches) → z ≡ t.id → l.cpu < t.about.shape.cpus →
    t.about.count % 2 ≡ 0 → l ≡ new_lane t.about l.cpu
    → AreArenas t.about (length t.about.shape.maps) xs → AreBatches t.about l (length t.about.shape.maps) bs → IsPortOf t
    (record { table = z; known = l; arenas = xs; batches = bs; spilled = None })
starts t z l xs bs table cpu even new arenas batches = record {
  table = table;
  cpu = cpu;
  even = even;
  room = λ now. absurd (Rattle.hop_map.proofs.Ports.apart (sym now ∙ ap (λ (k : Known). in_run (events_of l.cpu k.seen)) new));
  legal = subst (λ (k : Known). IsLegal t.about.shape k.seen) (sym new) (as_made t.about.shape, refl);
  limbo = ap (λ (k : Known). length k.limbo) new ∙ limbo_size (length t.about.shape.maps);
  arenas = arenas;
  batches = batches;
}

pub lanes_new : (a : About) (c n : ℕ) → c + n ≤ a.shape.cpus → All (IsNewLane a) (lanes_from a c n)
lanes_new a c zero few = All-nil (IsNewLane a)
lanes_new a c (suc n) few = All-cons (IsNewLane a) (new_lane a c) (lanes_from a (c + 1) n) (omega arith, refl) (lanes_new a (c + 1) n (omega arith))

pub moved_over : (ps : List Port) (p : Port) (l : Known) (ls rest all : List Known) → ls ≡ l ∷ rest → p.known ≡ l → map known_of ps ++ ls ≡
    all → map known_of (ps ++ p ∷ []) ++ rest ≡ all
moved_over [] p l ls rest all is same whole = ap (λ (k : Known). k ∷ rest) same ∙ (sym is ∙ whole)
moved_over (q ∷ ps) p l ls rest all is same whole = ap (λ (ks : List Known). q.known ∷ ks)
    (moved_over ps p l ls rest (map known_of ps ++ ls) is same refl) ∙ whole

-- ---- all ports back
pub map_snoc : (ps : List Port) (p : Port) → map known_of (ps ++ p ∷ []) ≡ map known_of ps ++ p.known ∷ []
map_snoc [] p = refl
map_snoc (q ∷ ps) p = ap (λ (ls : List Known). q.known ∷ ls) (map_snoc ps p)

pub legal_of : (a : About) (h : List Entry) (ws : List ℕ) → KeepsWholeHistory a (view [] h) ws → IsLegal a.shape h
legal_of a h ws w = (w.ghost.last, subst (λ (log : List Entry). Legal (as_made a.shape) log w.ghost.last) (sym w.whole) w.rule.logged.legal)

-- each update that was begun was made: no CPU has an element in hand any more
pub causes_of : (a : About) (h : List Entry) (ws : List ℕ) (w : KeepsWholeHistory a (view [] h) ws) → HaveCauses a.shape a.version h w.ghost.last
causes_of a h ws w = subst (λ (log : List Entry). HaveCausesBy a.shape a.version (updates_in log) log w.ghost.last) (sym w.whole)
    (causes_made a.shape a.version (begun_in w.ghost.log w.ghost.lanes.fresh) (updates_in w.ghost.log) w.ghost.log w.ghost.last
    (λ m c inside. let z : taken_at m (updates_in w.ghost.log m c) (w.ghost.lanes.fresh c) ≡ 0 = ap (taken_at m (updates_in w.ghost.log m c)) (w.empty c inside) in
    omega arith)
    w.rule.shown.causes)

-- the last store, and the history that leads to it
pub last_caused : (e : Ending) → KeepsWholeHistory e.about (view [] e.history) e.words → (last : Plain) × IsLast e last × Legal
    (as_made e.about.shape) e.history last × HaveCauses e.about.shape e.about.version e.history last
last_caused e w = (
  w.ghost.last,
  (w, refl),
  subst (λ (log : List Entry). Legal (as_made e.about.shape) log w.ghost.last) (sym w.whole) w.rule.logged.legal,
  causes_of e.about e.history e.words w,
)

unlocked_at : (ls : List Known) (k : ℕ) (l : Known) → All IsFree ls → get_elem? ls k ≡ some l → l.locks ≡ []
unlocked_at [] k l all e = absurd (some-ne-none l (sym e))
unlocked_at (x ∷ ls) zero l all e = (subst IsFree (some-injective x l e) (All-head IsFree x ls all)).0
unlocked_at (x ∷ ls) (suc k) l all e = unlocked_at ls k l (All-tail IsFree x ls all) e

empty_at : (ls : List Known) (k : ℕ) (l : Known) → All IsFree ls → get_elem? ls k ≡ some l → l.fresh ≡ []
empty_at [] k l all e = absurd (some-ne-none l (sym e))
empty_at (x ∷ ls) zero l all e = (subst IsFree (some-injective x l e) (All-head IsFree x ls all)).1
empty_at (x ∷ ls) (suc k) l all e = empty_at ls k l (All-tail IsFree x ls all) e

pub known_at : (ports : List Port) (ls : List Known) (k : ℕ) (p : Port) → ls ≡ map known_of ports → get_elem? ports k ≡ some p → get_elem? ls k ≡ some p.known
known_at ports ls k p same e = ap (λ (l : List Known). get_elem? l k) same ∙ at_map known_of ports k p e

pub all_back : (t : Shown) (ports : List Port) (ls : List Known) → IsAllOf t ports → ls ≡ map known_of ports → All IsFree ls → AreAllBack t.about ls
all_back t ports ls all same free = λ c inside.
    let e = all.each c inside in
    let at = known_at ports ls e.0 e.1 same e.2 in
    (e.0, e.1.known, e.3, at, unlocked_at ls e.0 e.1.known free at, empty_at ls e.0 e.1.known free at)
