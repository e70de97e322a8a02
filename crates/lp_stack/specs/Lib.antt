pub mod TaskView
