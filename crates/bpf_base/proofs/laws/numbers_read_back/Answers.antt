use Rattle.bpf_base.proofs.Numbers.{little_endian-low_bytes, low_bytes-little_endian}
use Rattle.bpf_base.proofs.laws.numbers_read_back.Goals as goal

pub returns : goal.returns
returns c = (little_endian-low_bytes, low_bytes-little_endian)
