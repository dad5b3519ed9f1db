pub use Rattle.bpf_spelling.specs.Form
pub use Rattle.bpf_text.specs.Assembly
pub mod Laws
pub mod Listing
