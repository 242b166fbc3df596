pub mod Zeros
pub mod Pages
pub mod PagesIsMemory
