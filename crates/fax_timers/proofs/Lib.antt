pub mod DueMoments
