use Rattle.std.proofs.Common.{◌≡◌, ◌≤◌, ℕ, ◌+◌, ◌-◌, ◌*◌, ◌/◌, ◌%◌, ap, refl, sym, subst, ◌∙◌, arith}
use Rattle.std.proofs.Math.Nat.{mod-mod_of_dvd, mul-mod_left}
use Rattle.std.proofs.lemmas.Nat.{div-add-mod'}
use Rattle.std.proofs.lemmas.Nat.Gcd.{dvd_of_mod-eq-zero}
use Rattle.bpf_shared.specs.Access.{bytes_in}
use Rattle.bpf_shared.specs.Shape.{IsShape, element_stride}
use Rattle.hop_layout.specs.declared.about.About.{About}
use Rattle.hop_words.specs.Ghost.{shape_at}
use Rattle.hop_words.specs.Kinds.{TouchesHeldValue}
use Rattle.hop_map.proofs.Touching.{map_there, touches}
use Rattle.hop_map.proofs.parts.part_at.Goals as goal

-- strides are whole words
whole : (n q : ℕ) → n % (q * 8) % 8 ≡ n % 8
whole n q = mod-mod_of_dvd 8 n (dvd_of_mod-eq-zero 8 (mul-mod_left q 8))

-- an address is put together again
summed : (p n e o : ℕ) → 0x10_0000_0000 ≤ p → n ≡ (p - 0x10_0000_0000) % 0x1000_0000 → e + o ≡ n → o % 8 ≡ n % 8
    → 0x10_0000_0000 + 0x1000_0000 * ((p - 0x10_0000_0000) / 0x1000_0000) + e + (8 * (o / 8) + n % 8) ≡ p
summed p n e o above is parts last = omega (arith, above, is, parts, last)

pub shape_of-requires : goal.shape_of-requires
shape_of-requires c =
    let a = c.args.table.now.about in
    let s = subst (λ (x : About). IsShape x.shape) c.about.ensures c.cpus-cpus.ensures.in_range in
    record { map = map_there a s c.args.at.at c.args.size c.requires.there }

pub overflow_cast-map : goal.overflow_cast-map
overflow_cast-map c =
    let a = c.args.table.now.about in
    let s = subst (λ (x : About). IsShape x.shape) c.about.ensures c.cpus-cpus.ensures.in_range in
    let there = map_there a s c.args.at.at c.args.size c.requires.there in
    let few = s.count in
    omega arith

pub returns-clause-touches : goal.returns-clause-touches
returns-clause-touches c = λ l h.
    let a = c.args.table.now.about in
    let s = subst (λ (x : About). IsShape x.shape) c.about.ensures c.cpus-cpus.ensures.in_range in
    let m : ℕ = (c.args.at.at - 0x10_0000_0000) / 0x1000_0000 in
    let n : ℕ = (c.args.at.at - 0x10_0000_0000) % 0x1000_0000 in
    let q : ℕ = (c.shape_of.result.value + 7) / 8 in
    let b = bytes_in c.args.size in
    let t = touches a s c.args.at.at c.args.size c.shape_of.result (q * 8) c.shape_of.ensures.shape (omega arith) l h in
    subst (λ (e : ℕ). TouchesHeldValue a l m e (c.divided-element.result.1 / 8) (n % 8) b) (sym c.divided-element.ensures.value)
    (subst (λ (r : ℕ). TouchesHeldValue a l m (n / (q * 8)) (r / 8) (n % 8) b) (sym c.divided-element.ensures.place)
    (subst (λ (k : ℕ). TouchesHeldValue a l m (n / (q * 8)) (n % (q * 8) / 8) k b) (whole n q) t))

pub returns-clause-at : goal.returns-clause-at
returns-clause-at c =
    let a = c.args.table.now.about in
    let m : ℕ = (c.args.at.at - 0x10_0000_0000) / 0x1000_0000 in
    let q : ℕ = (c.shape_of.result.value + 7) / 8 in
    let is : q * 8 ≡ element_stride c.shape_of.result = omega arith in
    let same : q * 8 ≡ element_stride (shape_at a m) = is ∙ ap element_stride c.shape_of.ensures.shape in
    let n : ℕ = (c.args.at.at - 0x10_0000_0000) % 0x1000_0000 in
    let above : 0x10_0000_0000 ≤ c.args.at.at = omega (arith, c.requires.there.covers.0) in
    rw (c.divided-element.ensures.value, c.divided-element.ensures.place, ← same)
    (summed c.args.at.at n (n / (q * 8) * (q * 8)) (n % (q * 8)) above refl (div-add-mod' n (q * 8)) (whole n q))
