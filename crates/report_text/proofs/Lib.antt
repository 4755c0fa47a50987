pub mod PieceLaws
