pub mod FigureLaws
pub mod FrameLaws
