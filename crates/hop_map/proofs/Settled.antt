-- Ports whose CPUs have all seen the whole history, and what else a port has.
use Rattle.std.proofs.Common.{◌≡◌, ℕ, ◌<◌, false, List, [], ◌∷◌, ◌++◌, Option, Some, map, length, get_or, slice_get, drop, All, refl, ap}
use Rattle.std.proofs.Common.{sym, subst, ◌∙◌, arith}
use Rattle.std.proofs.lemmas.List.{length-map, length-append, append-nil, nil_from_length, get_or-map, map_push}
use Rattle.std.proofs.Math.Seq.{get_or-append_seam}
use Rattle.std.proofs.lemmas.List.Elements.{All-nil, All-head, All-tail, All-map}
use Rattle.std.proofs.lemmas.Option.{slice_get_within, slice_get-get_or, get_or_from_slice_get}
use Rattle.atomic_table.proofs.Lists.{at_index}
use Rattle.bpf_shared.specs.declared.events.Entry.{Entry}
use Rattle.bpf_shared.specs.History.{events_of}
use Rattle.bpf_shared.specs.Own.{in_run}
use Rattle.hop_words.specs.declared.known.Known.{Known}
use Rattle.hop_words.specs.Inside.{Shown}
use Rattle.hop_words.specs.Seats.{AreSettled, with_seen}
use Rattle.hop_arena.specs.declared.arena.Arena.{Arena}
use Rattle.hop_epoch.specs.declared.batches.Batches.{Batches}
use Rattle.hop_map.specs.declared.settling.Aside.{Aside}
use Rattle.hop_map.specs.Private.Port.{HasNothing}
use Rattle.hop_map.specs.Port.{Port, IsPortOf, known_of, own_events, runs}
use Rattle.hop_map.specs.Stores.{AreIdlePorts, HaveSeen, IsWhole, seen_by}
use Rattle.hop_map.proofs.Ports.{apart, moved}
use Rattle.hop_map.proofs.Dealing.{known_at}

abbrev pub Parts : Type 0
Parts = List Arena × List Batches × Option ℕ

abbrev pub port_parts : Port → Parts
port_parts p = (p.arenas, p.batches, p.spilled)

abbrev pub aside_parts : Aside → Parts
aside_parts a = (a.arenas.items, a.batches.items, a.spilled)

-- the port, whose CPU has now seen this history
abbrev pub with_history : List Entry → Port → Port
with_history log p = record p { known = with_seen log p.known }

-- one more of each, whose parts are the same
pub one_more : {X Y Z : Type 0} (f : X → Z) (g : Y → Z) (xs all : List X) (ys : List Y) (x : X) (y : Y) → all ≡ xs ++ x ∷ [] → f x ≡ g y →
    map f xs ≡ map g ys → map f all ≡ map g (ys ++ y ∷ [])
one_more f g xs all ys x y is same before = ap (map f) is ∙ (map_push f xs x ∙ ((λ i. before i ++ same i ∷ []) ∙ sym (map_push g ys y)))

pub same_length : {X Y Z : Type 0} (f : X → Z) (g : Y → Z) (xs : List X) (ys : List Y) → map f xs ≡ map g ys → length xs ≡ length ys
same_length f g xs ys is = sym (length-map xs f) ∙ (ap length is ∙ length-map ys g)

pub still_nothing : (log : List Entry) (ls : List Known) → All HasNothing ls → All HasNothing (map (with_seen log) ls)
still_nothing log ls all = All-map HasNothing (with_seen log) ls
    (λ k d inside. let h = all k d inside in record { fresh = h.fresh; locks = h.locks; used = h.used })

-- all that an iteration had, at its end
pub all_of : {X : Type 0} (yielded rest all : List X) → length rest ≡ 0 → yielded ++ rest ≡ all → yielded ≡ all
all_of yielded rest all none whole = sym (append-nil yielded) ∙ (ap (λ l. yielded ++ l) (sym (nil_from_length rest none)) ∙ whole)

-- while it has more, not all ports are there
pub few_given : (yielded rest all : List Aside) (a : Aside) (more : List Aside) (done ports : List Port) → yielded ++ rest ≡ all → rest ≡ a
    ∷ more → map aside_parts all ≡ map port_parts ports → map port_parts done ≡ map aside_parts yielded → length done < length ports
few_given yielded rest all a more done ports whole is those these =
    let long = ap length whole in
    let parts = length-append yielded rest in
    let some = ap length is in
    let n = same_length aside_parts port_parts all ports those in
    let k = same_length port_parts aside_parts done yielded these in
    omega arith

one_of : (ps : List Port) → 0 < length ps → Port
one_of [] some = absurd (omega arith)
one_of (p ∷ ps) some = p

module _ (t : Shown) (log : List Entry) where
  abbrev Ours : Port → Type 0
  Ours p = p.table ≡ t.id

  -- ports are the same by their parts
  same_ports : (xs ys : List Port) → map known_of xs ≡ map (with_seen log) (map known_of ys) → map port_parts xs ≡ map port_parts ys → All
      Ours xs → All Ours ys → xs ≡ map (with_history log) ys
  same_ports [] [] k p a b = refl
  same_ports [] (y ∷ ys) k p a b = absurd (let n = ap length p in omega arith)
  same_ports (x ∷ xs) [] k p a b = absurd (let n = ap length p in omega arith)
  same_ports (x ∷ xs) (y ∷ ys) k p a b =
      let known : x.known ≡ with_seen log y.known = ap (λ (l : List Known). get_or l 0 x.known) k in
      let parts : port_parts x ≡ port_parts y = ap (λ (l : List Parts). get_or l 0 (port_parts x)) p in
      let table : x.table ≡ y.table = All-head Ours x xs a ∙ sym (All-head Ours y ys b) in
      let one : x ≡ with_history log y = λ i. record { table = table i; known = known i; arenas = (parts i).0; batches = (parts i).1; spilled = (parts i).2 } in
      let rest = same_ports xs ys (ap (drop 1) k) (ap (drop 1) p) (All-tail Ours x xs a) (All-tail Ours y ys b) in
      λ i. one i ∷ rest i

module _ (t : Shown) (ports : List Port) (are : AreIdlePorts t ports) (before after : List Known) (known : before ≡ map known_of ports)
    (s : AreSettled t.about before after) where
  -- what a CPU has done is all that the history has of it
  own : (c : ℕ) (p : Port) → slice_get ports c ≡ Some p → events_of c s.log ≡ own_events p
  own c p is =
      let here = at_index ports c p (slice_get_within ports c p is) (sym (get_or_from_slice_get ports c p p is)) in
      let b = s.begins c p.known (known_at ports before c p known here) in
      ap (λ (k : ℕ). events_of k s.log) (sym (are.numbered c p is)) ∙ sym b.1

  idle : (c : ℕ) (p : Port) → slice_get ports c ≡ Some p → runs p ≡ false → runs (with_history s.log p) ≡ false
  idle c p is none = ap (λ (k : ℕ). in_run (events_of k s.log)) (are.numbered c p is) ∙ (ap in_run (own c p is) ∙ none)

  at : (c : ℕ) (d : Port) → c < length ports → slice_get ports c ≡ Some (get_or ports c d)
  at c d inside = slice_get-get_or ports c d inside

  all_idle : All (λ p. runs p ≡ false) (map (with_history s.log) ports)
  all_idle = All-map (λ (p : Port). runs p ≡ false) (with_history s.log) ports (λ c d inside. idle c (get_or ports c d) (at c d inside) (are.idle c d inside))

  fits : (p : Port) → IsPortOf t p → runs (with_history s.log p) ≡ false → IsPortOf t (with_history s.log p)
  fits p is none = moved t p p.table (with_seen s.log p.known) is refl refl refl (λ now. absurd (apart (sym now ∙ none))) s.legal

  idle_ports : AreIdlePorts t (map (with_history s.log) ports)
  idle_ports = record {
    each = All-map (IsPortOf t) (with_history s.log) ports
        (λ c d inside. fits (get_or ports c d) (are.each c d inside) (idle c (get_or ports c d) (at c d inside) (are.idle c d inside)));
    count = length-map ports (with_history s.log) ∙ are.count;
    numbered = λ c q is.
        let long = length-map ports (with_history s.log) in
        let within = slice_get_within (map (with_history s.log) ports) c q is in
        let inside : c < length ports = omega arith in
        let same : q ≡ with_history s.log (get_or ports c q) = sym (get_or_from_slice_get (map (with_history s.log) ports) c q q is) ∙
        get_or-map (with_history s.log) ports c q q inside in
        ap (λ (p : Port). p.known.cpu) same ∙ are.numbered c (get_or ports c q) (at c q inside);
    idle = all_idle;
  }

  all_seen : (ps : List Port) → All (λ p. p.known.seen ≡ seen_by (map (with_history s.log) ps)) (map (with_history s.log) ps)
  all_seen [] = All-nil (λ (p : Port). p.known.seen ≡ [])
  all_seen (p ∷ ps) = All-map (λ (q : Port). q.known.seen ≡ s.log) (with_history s.log) (p ∷ ps) (λ c d inside. refl)

  is_whole : (ps : List Port) → ps ≡ ports → IsWhole t.about.shape.cpus ports (seen_by (map (with_history s.log) ps))
  is_whole [] none = record {
    own = λ c p is. absurd (let within = slice_get_within ports c p is in let n = ap length none in omega arith);
    others = λ c past. refl;
  }
  is_whole (p ∷ ps) same = record { own = own; others = s.others }

  all_lanes : after ≡ map (with_seen s.log) (map known_of ports)
  all_lanes = s.after ∙ ap (map (with_seen s.log)) known

  many : length after ≡ length ports
  many = ap length all_lanes ∙ (length-map (map known_of ports) (with_seen s.log) ∙ length-map ports known_of)

  numbered_at : (n : ℕ) (l : Known) → n < length ports → get_or after n l ≡ l → l.cpu ≡ n
  numbered_at n l inside is =
      let d = one_of ports (omega arith) in
      let long = length-map ports known_of in
      let same : l ≡ with_seen s.log (known_of (get_or ports n d)) = sym is ∙ (ap (λ (ls : List Known). get_or ls n l) all_lanes
      ∙ (get_or-map (with_seen s.log) (map known_of ports) n l l (omega (arith, long)) ∙ ap (with_seen s.log) (get_or-map known_of ports n d l inside))) in
      ap (λ (k : Known). k.cpu) same ∙ are.numbered n (get_or ports n d) (at n d inside)

  -- the next lane is that of the next CPU
  pub next_lane : (done : List Port) (rest : List Known) → map known_of done ++ rest ≡ after → length done < length ports → (l : Known) ×
      (more : List Known) × (rest ≡ l ∷ more) × (l.cpu ≡ length done)
  next_lane done [] whole few = absurd (
      let n = ap length whole in
      let long = length-append (map known_of done) [] in
      let same = length-map done known_of in
      let all = many in
      omega arith)
  next_lane done (l ∷ more) whole few =
      let seam : get_or (map known_of done ++ l ∷ more) (length (map known_of done)) l ≡ l = get_or-append_seam (map known_of done) l more l in
      let here : get_or after (length done) l ≡ l = ap (λ (n : ℕ). get_or after n l) (sym (length-map done known_of)) ∙
      (ap (λ (ls : List Known). get_or ls (length (map known_of done)) l) (sym whole) ∙ seam) in
      (l, more, refl, numbered_at (length done) l few here)

  all_given : (done : List Port) (rest : List Known) → map known_of done ++ rest ≡ after → length done ≡ length ports → map known_of done ≡ after
  all_given done rest whole full =
      let n = ap length whole in
      let long = length-append (map known_of done) rest in
      let same = length-map done known_of in
      let all = many in
      let none : rest ≡ [] = nil_from_length rest (omega arith) in
      sym (append-nil (map known_of done)) ∙ (ap (λ (ls : List Known). map known_of done ++ ls) (sym none) ∙ whole)

  module _ (back : List Port) (rest : List Known) (whole_is : map known_of back ++ rest ≡ after)
      (parts : map port_parts back ≡ map port_parts ports) (table : All (λ p. p.table ≡ t.id) back) where
    lanes : map known_of back ≡ after
    lanes = all_given back rest whole_is (same_length port_parts port_parts back ports parts)

    same : back ≡ map (with_history s.log) ports
    same = same_ports t s.log back ports (lanes ∙ (s.after ∙ ap (map (with_seen s.log)) known)) parts table (λ c d inside. (are.each c d inside).table)

    pub have_seen : HaveSeen t (seen_by back) back
    have_seen = subst (λ (ps : List Port). HaveSeen t (seen_by ps) ps) (sym same) (record { ports = idle_ports; seen = all_seen ports })

    pub whole : IsWhole t.about.shape.cpus ports (seen_by back)
    whole = subst (λ (ps : List Port). IsWhole t.about.shape.cpus ports (seen_by ps)) (sym same) (is_whole ports refl)
