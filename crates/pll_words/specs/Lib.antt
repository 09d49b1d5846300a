pub mod PllWords
