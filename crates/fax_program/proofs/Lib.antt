mod Services
