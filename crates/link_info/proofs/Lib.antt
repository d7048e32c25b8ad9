pub mod InfoReading
