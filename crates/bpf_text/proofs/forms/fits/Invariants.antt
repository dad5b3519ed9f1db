use Rattle.std.proofs.Common.{◌≡◌, map, drop}
use Rattle.bpf_text.specs.Private.Look.{look}
use Rattle.bpf_text.specs.Private.Forms.{fits, left_of}
use Rattle.bpf_text.proofs.forms.fits.Given as goal

abbrev pub invariant-loop-token : goal.invariant-loop-token
invariant-loop-token l = fits l.width l.register (left_of l.signed l.left) (map look (drop l.token-index l.tokens))
    ≡ fits l.width l.register l.pieces (map look l.tokens)
