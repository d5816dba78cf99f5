pub mod TakenApart
