pub mod AsScan
