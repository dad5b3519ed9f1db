use Rattle.std.proofs.Common.{◌≡◌, ℕ, ◌-◌, ◌/◌, ◌%◌, ap, sym, subst, ◌∙◌, arith}
use Rattle.bpf_shared.specs.Access.{bytes_in}
use Rattle.bpf_shared.specs.Shape.{IsShape}
use Rattle.hop_layout.specs.declared.about.About.{About}
use Rattle.hop_words.specs.Kinds.{TouchesFixedValue, ChangesFixedValue, fixed_address}
use Rattle.hop_words.proofs.FixedParts.{part_area, part_array, part_address, part_touches, part_changes}
use Rattle.hop_map.proofs.parts.fixed_part_at.Goals as goal

pub overflow_cast-result : goal.overflow_cast-result
overflow_cast-result c =
    let a = c.args.table.now.about in
    let s = subst (λ (x : About). IsShape x.shape) c.about.ensures c.cpus-cpus.ensures.in_range in
    let area = part_area a s c.args.size c.args.at.at c.requires.there in
    let there = (part_array a s c.args.size c.args.at.at c.requires.there).0 in
    let few = s.array_count in
    omega arith

pub returns-clause-touches : goal.returns-clause-touches
returns-clause-touches c = λ l h.
    let a = c.args.table.now.about in
    let s = subst (λ (x : About). IsShape x.shape) c.about.ensures c.cpus-cpus.ensures.in_range in
    let at = c.args.at.at in
    let n : ℕ = (at - 0x10_0000_0000) % 0x1000_0000 in
    let is : (at - 0x10_0000_0000) / 0x1000_0000 - 16 ≡ h.place.number = (let area = part_area a s c.args.size at h.place in omega arith) in
    subst (λ (b : ℕ). TouchesFixedValue a l b (n / 8) (n % 8) (bytes_in c.args.size)) (sym is) (part_touches a s c.args.size at h.place l h.runs)

pub returns-clause-changes : goal.returns-clause-changes
returns-clause-changes c = λ l h.
    let a = c.args.table.now.about in
    let s = subst (λ (x : About). IsShape x.shape) c.about.ensures c.cpus-cpus.ensures.in_range in
    let at = c.args.at.at in
    let n : ℕ = (at - 0x10_0000_0000) % 0x1000_0000 in
    let is : (at - 0x10_0000_0000) / 0x1000_0000 - 16 ≡ h.fixed.place.number = (let area = part_area a s c.args.size at h.fixed.place in omega arith) in
    subst (λ (b : ℕ). ChangesFixedValue a l b (n / 8) (n % 8) (bytes_in c.args.size)) (sym is)
    (part_changes a s c.args.size at h.fixed.place l h.fixed.runs h.writable)

pub returns-clause-at : goal.returns-clause-at
returns-clause-at c =
    let a = c.args.table.now.about in
    let s = subst (λ (x : About). IsShape x.shape) c.about.ensures c.cpus-cpus.ensures.in_range in
    let at = c.args.at.at in
    let p = c.requires.there in
    let n : ℕ = (at - 0x10_0000_0000) % 0x1000_0000 in
    let is : (at - 0x10_0000_0000) / 0x1000_0000 - 16 ≡ p.number = (let area = part_area a s c.args.size at p in omega arith) in
    ap (λ (b : ℕ). fixed_address b (n / 8) (n % 8)) is ∙ part_address a s c.args.size at p
