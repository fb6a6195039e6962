pub mod FirstFound
