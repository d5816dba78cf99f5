pub mod MotionNumbers
