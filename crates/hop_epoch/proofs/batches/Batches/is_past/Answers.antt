use Rattle.std.proofs.Common.{◌≡◌, ℕ, ◌+◌, ◌%◌, ◌<◌, List, length, slice_index, set, length-set, ap, sym, subst, ◌∙◌, arith, refl}
use Rattle.hop_layout.specs.declared.about.About.{About}
use Rattle.hop_words.specs.declared.known.Known.{Known}
use Rattle.hop_layout.specs.declared.place.Place.TheVariants.{RunCount}
use Rattle.hop_words.specs.Sights.{look}
use Rattle.hop_words.specs.Inside.{Standing}
use Rattle.hop_words.specs.Ghost.{limbo_at}
use Rattle.hop_words.specs.Owning.{LooksAgain}
use Rattle.hop_epoch.specs.declared.batches.Batches.{Batches}
use Rattle.hop_epoch.specs.Batch.{Notes, LooksAtCounters, AreEven}
use Rattle.hop_epoch.proofs.Batching.{looks_same, looks_cleared, noted_cleared, notes_cleared, even_cleared, even_on}
use Rattle.hop_epoch.proofs.batches.Batches.is_past.Goals as goal
use Rattle.hop_epoch.proofs.batches.Batches.is_past.Goals.{then-noted-eq1+else-found-noted, else-noted-eq1}

pub returns-then-found-noted-clause-looks : goal.returns-then-found-noted-clause-looks
returns-then-found-noted-clause-looks c =
    let i = c.loop-cpu.invariant in
    let looked = subst (λ (n : ℕ). LooksAgain c.loop-cpu.lane.known n c.loop-cpu.cpu c.see_counter_again-found.result
    c.see_counter_again-found.new.self.known) i.1 c.see_counter_again-found.ensures.looked in
    let cpus = c.cpus-cpu-end.ensures.cpus ∙ ap (λ (x : About). x.shape.cpus) c.about.ensures in
    let few : c.loop-cpu.cpu < c.args.table.now.about.shape.cpus = (let t = c.loop-cpu-test.true in omega arith) in
    looks_same c.args.self.now.map c.args.lane.now.known c.loop-cpu.lane.known c.see_counter_again-found.new.self.known
    (look (RunCount c.loop-cpu.cpu) c.see_counter_again-found.result) refl i.5
    (looked.0 (c.if-found-noted.true ∙ (ap (slice_index c.loop-cpu.self.noted) c.from.ensures ∙ sym (i.6.1 c.loop-cpu.cpu few))))

pub loop-cpu-preserved : goal.loop-cpu-preserved
loop-cpu-preserved c = elim c.if-noted-eq1.branch [
  | then-noted-eq1+else-found-noted w ↦
      let i = c.loop-cpu.invariant in
      let a = c.args.table.now.about in
      let m = c.args.self.now.map in
      let k = c.loop-cpu.lane.known in
      let new = w.see_counter_again-found.new.self.known in
      let d = c.loop-cpu.cpu in
      let s = look (RunCount d) w.see_counter_again-found.result in
      let cpus = c.cpus-cpu-end.ensures.cpus ∙ ap (λ (x : About). x.shape.cpus) c.about.ensures in
      let few : d < a.shape.cpus = (let t = c.loop-cpu-test.true in omega arith) in
      let looked = subst (λ (n : ℕ). LooksAgain k n d w.see_counter_again-found.result new) i.1 w.see_counter_again-found.ensures.looked in
      let cleared = looked.1 (λ same. w.if-found-noted.false (same ∙ (i.6.1 d few ∙ ap (slice_index c.loop-cpu.self.noted) (sym c.from.ensures)))) in
      let lane = ap (λ (x : Standing). x.known) w.lane-is in
      let ns : c.if-noted-eq1.self.noted ≡ set c.loop-cpu.self.noted d 0 = ap (λ (x : Batches). x.noted) w.self-is ∙ ap
      (λ (j : ℕ). set c.loop-cpu.self.noted j 0) w.from-then-noted-eq1.ensures in
      let sixteen : d < length c.loop-cpu.self.noted = (let z = i.8 in let f = c.requires.shape.cpus.1 in omega arith) in (
        ap (λ (x : Standing). x.table) w.lane-is ∙ (w.see_counter_again-found.ensures.table ∙ i.0),
        ap (λ (x : Batches). x.map) w.self-is ∙ i.1,
        ap (λ (x : Batches). x.young) w.self-is ∙ i.2,
        ap (λ (x : Batches). x.aged) w.self-is ∙ i.3,
        subst (λ (l : Known). m < length l.limbo) (sym lane) (subst (λ (n : ℕ). m < n)
            (sym (ap (λ (l : Known). length l.limbo) cleared ∙ length-set k.limbo m _)) i.4),
        subst (LooksAtCounters m c.args.lane.now.known) (sym lane) (looks_cleared m d c.args.lane.now.known k new s refl i.4 i.5 cleared),
        subst (λ (l : Known). Notes a (limbo_at l.limbo m).noted c.if-noted-eq1.self.noted) (sym lane)
            (subst (λ (ks : List ℕ). Notes a ks c.if-noted-eq1.self.noted) (sym (noted_cleared m d k new s i.4 cleared))
            (subst (λ (zs : List ℕ). Notes a (set (limbo_at k.limbo m).noted d 0) zs) (sym ns)
            (notes_cleared a (limbo_at k.limbo m).noted c.loop-cpu.self.noted d sixteen (let z = i.6.0 in omega arith) i.6))),
        subst (AreEven (d + 1)) (sym ns) (even_cleared c.loop-cpu.self.noted d sixteen i.7),
        ap length ns ∙ (length-set c.loop-cpu.self.noted d 0 ∙ i.8),
      )
  | else-noted-eq1 w ↦
      let i = c.loop-cpu.invariant in
      let a = c.args.table.now.about in
      let m = c.args.self.now.map in
      let lane = ap (λ (x : Standing). x.known) w.lane-is in
      let self = w.self-is in (
        ap (λ (x : Standing). x.table) w.lane-is ∙ i.0,
        ap (λ (x : Batches). x.map) self ∙ i.1,
        ap (λ (x : Batches). x.young) self ∙ i.2,
        ap (λ (x : Batches). x.aged) self ∙ i.3,
        subst (λ (l : Known). m < length l.limbo) (sym lane) i.4,
        subst (LooksAtCounters m c.args.lane.now.known) (sym lane) i.5,
        subst (λ (l : Known). Notes a (limbo_at l.limbo m).noted c.if-noted-eq1.self.noted) (sym lane)
            (subst (λ (x : Batches). Notes a (limbo_at c.loop-cpu.lane.known.limbo m).noted x.noted) (sym self) i.6),
        subst (λ (x : Batches). AreEven (c.loop-cpu.cpu + 1) x.noted) (sym self) (even_on c.loop-cpu.self.noted c.loop-cpu.cpu
            (subst (λ (j : ℕ). slice_index c.loop-cpu.self.noted j % 2 ≡ 0) c.from.ensures (let f = w.if-noted-eq1.false in grind arith)) i.7),
        ap (λ (x : Batches). length x.noted) self ∙ i.8,
      )
]
