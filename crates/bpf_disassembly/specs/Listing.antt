-- Lines with the places and the words of their instructions.
pub mod Program
pub mod Source
pub mod Laws
