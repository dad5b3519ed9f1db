use Rattle.std.proofs.Common.{None, refl}
use Rattle.std.proofs.lemmas.List.{get_or-replicate}
use Rattle.hop_seg.proofs.Empty.{empty_front}
use Rattle.hop_seg.proofs.plain.PlainFront.new.Goals as goal

pub returns : goal.returns
returns c = empty_front _ (λ b bb. get_or-replicate 64 b 0 0 bb) (λ p pp. get_or-replicate 64 p None None pp) refl
